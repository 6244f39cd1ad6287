-- The loops so far.
use Rattle.std.proofs.Common.{◌≡◌, ◌+◌, ◌*◌, ◌≤◌, All, length}
use Rattle.pic_grid.specs.Loops.{IsLoop}
use Rattle.pic_fields.specs.Parser.{each}
use Rattle.pic_fields.specs.Reads.{HasRead}
use Rattle.pic_header.specs.HeaderFields.{loop_at, loops_length}
use Rattle.pic_header.proofs.loop_reader.read_loops.Given as goal

abbrev pub invariant-loop-index : goal.invariant-loop-index
invariant-loop-index g l = record {
  read : HasRead (each l._index (λ before. loop_at l.cells.n)) l.place (g.S.Source.told l.initial.source) l.loops.items l.at (g.S.Source.told l.source);
  here : l.at ≡ l.place + loops_length l.loops.items;
  most : loops_length l.loops.items ≤ 532 * l._index;
  limits : All (IsLoop l.cells.n) l.loops.items;
  size : length l.loops.items ≡ l._index;
}
