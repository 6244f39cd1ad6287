-- The pieces so far.
use Rattle.std.proofs.Common.{◌≡◌, ◌+◌, ◌-◌, ◌*◌, ◌≤◌, length, take}
use Rattle.pic_block.specs.Cells.{count_of}
use Rattle.pic_fields.specs.Parser.{each}
use Rattle.pic_fields.specs.Reads.{HasRead}
use Rattle.pic_record.specs.Firsts.{FirstAre}
use Rattle.pic_record.specs.FrameFields.{IsModerate, value_at}
use Rattle.pic_record.proofs.field_reader.read_field.Given as goal

abbrev pub invariant-loop-first : goal.invariant-loop-first
invariant-loop-first g l = record {
  read : HasRead (each l.first (value_at l.fn.by)) l.place (g.S.Source.told l.initial.source) (take l.first l.field.values) (l.place + 16 * l.first)
      (g.S.Source.told l.source);
  all : l.all ≡ 3 * count_of l.initial.field.cells;
  most : l.first ≤ l.all;
  cells : l.field.cells ≡ l.initial.field.cells;
  side : l.field.side ≡ l.initial.field.side;
  parts : l.field.parts ≡ l.initial.field.parts;
  length : length l.field.values ≡ length l.initial.field.values;
  moderate : FirstAre (IsModerate l.fn.by) l.first l.field.values;
}

abbrev pub decreases-loop-first : goal.decreases-loop-first
decreases-loop-first g l = l.all - l.first
