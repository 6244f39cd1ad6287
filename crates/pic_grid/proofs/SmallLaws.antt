-- Fields and blocks of small values: zeros, and a value changed.
use Rattle.std.proofs.Common.{ℕ, zero, suc, ℤ, pos, ◌*◌, List, [], ◌∷◌, replicate, slice_index_or, slice_set, arith}
use Rattle.pic_num.specs.declared.axis.Axis.{Axis}
use Rattle.pic_num.specs.Sizes.{IsAtMost}
use Rattle.pic_num.specs.Space.{Triple, Spot}
use Rattle.pic_block.specs.Cells.{count_of, place_of}
use Rattle.pic_block.specs.Block.{BlockValues, AllAtMost, inner_of, with_edge}
use Rattle.pic_grid.specs.Lattice.{EachAtMost}

small_zeros : (most m j : ℕ) → IsAtMost (slice_index_or (replicate m (pos 0)) j (pos 0)) most
small_zeros most zero j = record { size = omega arith }
small_zeros most (suc m) zero = record { size = omega arith }
small_zeros most (suc m) (suc j) = small_zeros most m j

small_set : (most : ℕ) (xs : List ℤ) (i j : ℕ) (v : ℤ) → IsAtMost v most → IsAtMost (slice_index_or xs j (pos 0)) most
    → IsAtMost (slice_index_or (slice_set xs i v) j (pos 0)) most
small_set most [] i j v h k = k
small_set most (x ∷ xs) zero zero v h k = h
small_set most (x ∷ xs) zero (suc j) v h k = k
small_set most (x ∷ xs) (suc i) zero v h k = k
small_set most (x ∷ xs) (suc i) (suc j) v h k = small_set most xs i j v h k

pub each_zeros : (most side : ℕ) (n parts : Triple) → EachAtMost most (record {
  cells = n;
  side = side;
  parts = parts;
  values = replicate (3 * count_of n) (pos 0);
})
each_zeros most side n parts = record { at_most = λ a p w. small_zeros most (3 * count_of n) (place_of n a p) }

pub all_zeros : (most : ℕ) (low : Spot) (size : Triple) → AllAtMost most (record { low = low; size = size; values = replicate (3 * count_of size) (pos 0) })
all_zeros most low size = record { at_most = λ a c inside. small_zeros most (3 * count_of size) (place_of size a (inner_of low c)) }

pub all_with : (most : ℕ) (b : BlockValues) (a : Axis) (c : Spot) (v : ℤ) → AllAtMost most b → IsAtMost v most → AllAtMost most (with_edge b a c v)
all_with most b a c v all small = record {
  at_most = λ f d inside.
      small_set most b.values (place_of b.size a (inner_of b.low c)) (place_of b.size f (inner_of b.low d)) v small (all.at_most f d inside);
}
