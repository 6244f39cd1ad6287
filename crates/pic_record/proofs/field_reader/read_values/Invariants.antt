-- The values so far.
use Rattle.std.proofs.Common.{◌≡◌, ◌+◌, ◌*◌, length, take}
use Rattle.pic_fields.specs.Parser.{each}
use Rattle.pic_fields.specs.Reads.{HasRead}
use Rattle.pic_record.specs.Firsts.{FirstAre}
use Rattle.pic_record.specs.FrameFields.{IsModerate, value_at}
use Rattle.pic_record.proofs.field_reader.read_values.Given as goal

abbrev pub invariant-loop-i : goal.invariant-loop-i
invariant-loop-i g l = record {
  read : HasRead (each l.i (value_at l.by)) l.place (g.S.Source.told l.initial.source) (take l.i l.values) (l.place + 16 * l.i) (g.S.Source.told l.source);
  length : length l.values ≡ length l.initial.values;
  moderate : FirstAre (IsModerate l.by) l.i l.values;
}
