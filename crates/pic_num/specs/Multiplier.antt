use Rattle.std.specs.Prelude.{ℤ, ℕ, ◌≤◌}
use Rattle.pic_num.specs.Limits.{most_numerator, most_shift}
use Rattle.pic_num.specs.Sizes.{IsAtMost}

-- a multiplier stands for the fraction n / 2^k
pub record Multiplier : Type 0 where
  pub n : ℤ
  pub k : ℕ

-- what the type of a multiplier keeps
pub record IsMultiplier (m : Multiplier) : Type 0 where
  pub n_in_range : IsAtMost m.n most_numerator
  pub k_in_range : m.k ≤ most_shift
