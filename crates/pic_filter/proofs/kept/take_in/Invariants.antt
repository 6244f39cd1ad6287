use Rattle.std.proofs.Common.{◌-◌, ◌≡◌, ◌+◌, ◌%◌, ◌<◌, ◌≤◌, length}
use Rattle.pic_num.specs.declared.axis.Axis.TheVariants.{X, Z}
use Rattle.pic_num.specs.Space.{triple}
use Rattle.pic_grid.specs.Differences.{down}
use Rattle.pic_grid.specs.Lattice.{value_at}
use Rattle.pic_filter.specs.Kept.{row_cell}
use Rattle.pic_filter.specs.Smoothing.{smoothed_along}
use Rattle.pic_filter.proofs.KeptLaws.{TakenTo}
use Rattle.pic_filter.proofs.kept.take_in.Given as goal

-- the line is taken in up to `done`, and the next runs begin at the layer x
abbrev pub invariant-loop-done : goal.invariant-loop-done
invariant-loop-done l = record {
  at : l.x ≡ ((down l.from.cells X (triple l.fn.cell)).x + l.done) % l.from.cells.x;
  below : l.x < l.from.cells.x;
  most : l.done ≤ l.count;
  room : length l.kept ≡ l.count;
  taken : TakenTo (λ k. smoothed_along Z l.from.cells (value_at l.from l.axis) (row_cell l.from.cells (triple l.fn.cell) k)) l.done l.initial.kept l.kept;
}

abbrev pub decreases-loop-done : goal.decreases-loop-done
decreases-loop-done l = l.count - l.done
