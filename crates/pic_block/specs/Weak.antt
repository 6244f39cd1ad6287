-- Weak values. Under weights of 2^36 in all, as of a cell of 4096 sub-cells on each axis, a sum of them
-- fits a word of 64 bits.
use Rattle.std.specs.Prelude.{ℕ, ℤ, pos, ◌^◌, List, slice_index_or}
use Rattle.pic_num.specs.Sizes.{IsAtMost}

-- they are at most so large in size
abbrev pub most_weak : ℕ
most_weak = 2 ^ 26

-- a list has weak values alone
pub record AreWeak (values : List ℤ) : Type 0 where
  pub at : (i : ℕ) → IsAtMost (slice_index_or values i (pos 0)) most_weak
