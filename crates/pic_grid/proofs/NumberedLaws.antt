-- Cells and places are in the order of their numbers.
use Rattle.std.proofs.Common.{ℕ, ◌*◌, ◌/◌, ◌%◌}
use Rattle.pic_num.specs.declared.axis.Axis.{Axis}
use Rattle.pic_num.specs.Space.{Triple}
use Rattle.pic_num.proofs.FirstLaws.{AreNumbered}
use Rattle.pic_block.specs.Cells.{IsWithin, count_of, index_of, cell_of, axis_of, place_of}
use Rattle.pic_block.proofs.CellLaws.{index_of_below, cell_of-index_of, cell_of_within, index_of-cell_of}
use Rattle.pic_block.proofs.CellLaws.{place_of_below, axis_of-place_of, cell_of-place_of, place_within, place_of-number}

pub cells_numbered : (n : Triple) → AreNumbered (λ p. IsWithin p n) (count_of n) (index_of n) (cell_of n)
cells_numbered n = record {
  below = λ p w. index_of_below n p w;
  back = λ p w. cell_of-index_of n p w;
  within = λ i below. cell_of_within n i below;
  number_at = λ i below. index_of-cell_of n i;
}

-- the place of a component: its axis and its cell
abbrev pub Place : Type 0
Place = Axis × Triple

abbrev pub place_at : Triple → ℕ → Place
place_at n i = (axis_of (i / count_of n), cell_of n (i % count_of n))

pub places_numbered : (n : Triple) → AreNumbered {X = Place} (λ c. IsWithin c.1 n) (3 * count_of n) (λ c. place_of n c.0 c.1) (place_at n)
places_numbered n = record {
  below = λ c w. place_of_below n c.0 c.1 w;
  back = λ c w. (λ i. (axis_of-place_of n c.0 c.1 w i, cell_of-place_of n c.0 c.1 w i));
  within = λ i below. place_within n i below;
  number_at = λ i below. place_of-number n i below;
}
