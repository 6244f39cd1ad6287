use Rattle.std.proofs.Common.{◌≡◌, ◌*◌, None}
use Rattle.std.specs.List.{range_with_len}
use Rattle.pic_num.specs.First.{first_of}
use Rattle.pic_block.specs.Cells.{count_of}
use Rattle.pic_grid.specs.Lattice.{value_at}
use Rattle.pic_deck.proofs.ForceLaws.{strong_at}
use Rattle.pic_deck.proofs.forces.first_strong.Given as goal

abbrev pub invariant-loop-place : goal.invariant-loop-place
invariant-loop-place l = record {
  same : l.cells.n ≡ l.field.cells;
  last : l.place-end ≡ 3 * count_of l.field.cells;
  none : first_of (strong_at l.field.cells l.by (value_at l.field)) (range_with_len 0 l.place) ≡ None;
}
