use Rattle.std.proofs.Common.{◌≡◌, ℕ, ◌<◌, None}
use Rattle.pic_block.specs.Cells.{cell_of}
use Rattle.pic_block.proofs.PlaceLaws.{IsPlace}
use Rattle.pic_grid.specs.Differences.{div_e}
use Rattle.pic_grid.specs.Lattice.{value_at, node_at}
use Rattle.pic_num.specs.Space.{triple}
use Rattle.pic_charge.specs.Gauss.{difference_at}
use Rattle.pic_charge.proofs.breaks.gauss.Given as goal

-- the nodes so far have no break, and the walk stands at the next one
abbrev pub invariant-loop : goal.invariant-loop
invariant-loop l = record {
  none : (j : ℕ) → j < l.counter → difference_at (div_e l.cells.n (value_at l.e)) (node_at l.rho) (cell_of l.cells.n j) ≡ None;
  place : IsPlace l.cells.n l.counter l.place.axis (triple l.place.inner);
}
