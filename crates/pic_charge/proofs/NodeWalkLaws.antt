-- The nodes of a grid, one after another in the order of their numbers.
use Rattle.std.proofs.Common.{◌≡◌, ℕ, ◌+◌, ◌*◌, ◌<◌, sym, ◌∙◌, ap, subst, arith}
use Rattle.pic_num.specs.declared.axis.Axis.{Axis}
use Rattle.pic_num.specs.declared.axis.Axis.TheVariants.{X, Y, Z}
use Rattle.pic_num.specs.Space.{Triple}
use Rattle.pic_block.specs.Cells.{IsWithin, count_of, index_of, cell_of, place_of}
use Rattle.pic_block.proofs.CellLaws.{cell_of-index_of}
use Rattle.pic_block.proofs.PlaceLaws.{IsPlace, next_place}

-- the places of the first axis are the nodes
number_of : (n : Triple) (i : ℕ) (a : Axis) (p : Triple) → i < count_of n → place_of n a p ≡ i → index_of n p ≡ i
unfolding place_of
number_of n i X p below is = omega (arith, is)
number_of n i Y p below is = absurd (omega (arith, is, below))
number_of n i Z p below is = absurd (omega (arith, is, below))

-- the walk stands at a node,
pub node_within : (n : Triple) (i : ℕ) (a : Axis) (p : Triple) → IsPlace n i a p → i < count_of n → IsWithin p n
node_within n i a p place below = place.within (omega (arith, below))

-- the one of its number,
pub node_number : (n : Triple) (i : ℕ) (a : Axis) (p : Triple) → IsPlace n i a p → i < count_of n → index_of n p ≡ i
node_number n i a p place below = number_of n i a p below (place.number (omega (arith, below)))

pub node_is : (n : Triple) (i : ℕ) (a : Axis) (p : Triple) → IsPlace n i a p → i < count_of n → p ≡ cell_of n i
node_is n i a p place below =
    sym (cell_of-index_of n p (node_within n i a p place below)) ∙ ap (cell_of n) (node_number n i a p place below)

-- and goes on
pub node_behind : (n size : Triple) (i : ℕ) (a : Axis) (p : Triple) (b : Axis) (q : Triple) → size ≡ n → IsPlace n i a p → i < count_of n
    → IsWithin q size → (place_of size a p + 1 < 3 * count_of size → place_of size b q ≡ place_of size a p + 1) → IsPlace n (i + 1) b q
node_behind n size i a p b q same place below within next =
    subst (λ m. IsPlace m (i + 1) b q) same
    (next_place size i a p b q (subst (λ m. IsPlace m i a p) (sym same) place)
    (subst (λ m. i < 3 * count_of m) (sym same) (omega (arith, below))) within next)
