use Rattle.std.proofs.Common.{◌≡◌, ◌*◌, length, take}
use Rattle.std.proofs.Math.IntN.{◌+ℤ◌}
use Rattle.pic_num.specs.declared.axis.Axis.{Axis}
use Rattle.pic_num.specs.Space.{Triple}
use Rattle.pic_block.specs.Cells.{IsWithin, count_of}
use Rattle.pic_grid.specs.Lattice.{value_at}
use Rattle.pic_grid.specs.Sums.{sum_over}
use Rattle.pic_deck.specs.Initial.{part}
use Rattle.pic_deck.proofs.filling.add_rows.Given as goal

abbrev pub invariant-loop-row : goal.invariant-loop-row
invariant-loop-row l = record {
  cells : l.to.cells ≡ l.initial.to.cells;
  side : l.to.side ≡ l.initial.to.side;
  parts : l.to.parts ≡ l.initial.to.parts;
  shape : length l.to.values ≡ 3 * count_of l.to.cells;
  values : (a : Axis) (p : Triple) → IsWithin p l.initial.to.cells → value_at l.to a p
      ≡ value_at l.initial.to a p +ℤ sum_over (part a p) (take l.row-index l.rows);
}
