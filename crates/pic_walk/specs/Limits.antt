-- Limits of numbers.
use Rattle.std.specs.Prelude.{ℤ, pos, negsuc, neg_ℤ, List, [], ◌∷◌, ◌≤ℤ◌, ℕ, ◌-◌, ◌^◌, slice_index_or, Bool, int_le, ◌&&◌}
use Rattle.pic_walk.specs.declared.limits.Limits.{Limits}

-- from the one to the other, both allowed
abbrev pub from_to : ℤ → ℤ → Limits
from_to low high = record { low = low; high = high }

-- no more than n in size
abbrev pub either_way : ℕ → Limits
either_way n = from_to (neg_ℤ (pos n)) (pos n)

-- all numbers of 64 bits
abbrev pub any_limits : Limits
any_limits = from_to (negsuc (2 ^ 63 - 1)) (pos (2 ^ 63 - 1))

-- the numbers from 0 to below n
abbrev pub below : ℕ → Limits
below n = from_to (pos 0) (pos (n - 1))

-- whether a number is within the limits
abbrev pub is_within : Limits → ℤ → Bool
is_within limits z = int_le limits.low z && int_le z limits.high

-- the number is within the limits
pub record MeetsLimits (limits : Limits) (z : ℤ) : Type 0 where
  pub low : limits.low ≤ℤ z
  pub high : z ≤ℤ limits.high

-- the limits allow no number below 0 and none of more than 32 bits
pub record FitsU32 (limits : Limits) : Type 0 where
  pub low : pos 0 ≤ℤ limits.low
  pub high : limits.high ≤ℤ pos (2 ^ 32 - 1)

-- the limits allow only numbers below 2^31 in size
pub record FitsI32 (limits : Limits) : Type 0 where
  pub low : neg_ℤ (pos (2 ^ 31 - 1)) ≤ℤ limits.low
  pub high : limits.high ≤ℤ pos (2 ^ 31 - 1)

-- the same limits for each of three numbers
abbrev pub thrice : Limits → List Limits
thrice limits = limits ∷ limits ∷ limits ∷ []

-- the limits at an index
unfoldable pub limits_at : List Limits → ℕ → Limits
limits_at limits i = slice_index_or limits i (from_to (pos 0) (pos 0))
