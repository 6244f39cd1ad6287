use Rattle.std.proofs.Common.{◌≡◌, ◌*◌, ◌<◌, length}
use Rattle.pic_num.specs.declared.axis.Axis.{Axis}
use Rattle.pic_num.specs.Space.{Triple, spot}
use Rattle.pic_block.specs.Cells.{IsWithin, count_of, place_of}
use Rattle.pic_grid.specs.Lattice.{value_at}
use Rattle.pic_deck.specs.Initial.{IsUniform}
use Rattle.pic_deck.proofs.filling.fill_uniform.Given as goal

abbrev pub invariant-loop-place : goal.invariant-loop-place
invariant-loop-place l = record {
  same : l.cells.n ≡ l.to.cells;
  cells : l.to.cells ≡ l.initial.to.cells;
  side : l.to.side ≡ l.initial.to.side;
  parts : l.to.parts ≡ l.initial.to.parts;
  last : l.place-end ≡ 3 * count_of l.to.cells;
  shape : length l.to.values ≡ 3 * count_of l.to.cells;
  done : (a : Axis) (p : Triple) → IsWithin p l.to.cells → place_of l.to.cells a p < l.place → IsUniform (spot l.numbers) a (value_at l.to a p);
}
