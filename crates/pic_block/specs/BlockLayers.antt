-- Layers of a block: the values of one block laid over some of another's.
use Rattle.std.specs.Prelude.{◌≡◌, ℕ, ℤ, pos, ◌+◌, ◌-◌, ◌≤◌, ◌+ℤ◌, ◌&&◌, Bool, nat_le, nat_lt, if◌then◌else◌, List, slice_index_or, ◌^◌}
use Rattle.pic_num.specs.declared.axis.Axis.{Axis}
use Rattle.pic_num.specs.Sizes.{IsAtMost}
use Rattle.pic_num.specs.Space.{Triple}
use Rattle.pic_block.specs.Block.{BlockValues, inner_at}
use Rattle.pic_block.specs.Cells.{IsWithin}
use Rattle.pic_block.specs.Block.{no_block}

-- n layers on each axis fit among m, so far from the lowest
pub record FitsAt (offset n m : Triple) : Type 0 where
  pub x : offset.x + n.x ≤ m.x
  pub y : offset.y + n.y ≤ m.y
  pub z : offset.z + n.z ≤ m.z

-- q is one of n layers from low on
abbrev pub is_from : ℕ → ℕ → ℕ → Bool
is_from low n q = nat_le low q && nat_lt q (low + n)

-- the cell p is one of those of n layers on each axis, so far from the lowest
unfoldable pub is_over : Triple → Triple → Triple → Bool
is_over offset n p =
    is_from offset.x n.x p.x && (is_from offset.y n.y p.y && is_from offset.z n.z p.z)

abbrev pub lowered_by : Triple → Triple → Triple
lowered_by offset p = record { x = p.x - offset.x; y = p.y - offset.y; z = p.z - offset.z }

-- the block of n layers on each axis that has these values
abbrev pub box_of : Triple → List ℤ → BlockValues
box_of n values = record no_block { size = n; values = values }

-- the values of n layers, laid so far from the lowest cell, as they stand over the component on an
-- axis at the cell p: 0 where p is none of theirs
unfoldable pub layer_of : Triple → List ℤ → Triple → Axis → Triple → ℤ
layer_of n values offset a p =
    if is_over offset n p then inner_at (box_of n values) a (lowered_by offset p) else pos 0

-- a block before and after the values of another, laid so far from its lowest cell, are added
pub record AddsLayers (old now from : BlockValues) (offset : Triple) : Type 0 where
  pub at : (a : Axis) (p : Triple) → IsWithin p old.size
      → inner_at now a p ≡ inner_at old a p +ℤ layer_of from.size from.values offset a p

-- where blocks are added, the components of both are at most 2^120 in size
abbrev pub most_of_layer : ℕ
most_of_layer = 2 ^ 120

-- each of these numbers is at most most in size
pub record NumbersAtMost (most : ℕ) (numbers : List ℤ) : Type 0 where
  pub at_most : (k : ℕ) → IsAtMost (slice_index_or numbers k (pos 0)) most
