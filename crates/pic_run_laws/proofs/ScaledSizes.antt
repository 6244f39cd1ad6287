-- How large a number times a multiplier is.
use Rattle.std.proofs.Common.{ℕ, ℤ, ◌-◌, ◌*◌, ◌^◌, ◌≤◌, ◌*ℤ◌, unsigned_abs}
use Rattle.std.proofs.lemmas.Int.{unsigned_abs-mul}
use Rattle.std.proofs.Math.Nat.{le_trans}
use Rattle.pic_num.specs.Multiplier.{Multiplier, IsMultiplier}
use Rattle.pic_num.specs.Rounding.{scaled}
use Rattle.pic_num.specs.Sizes.{IsAtMost}
use Rattle.pic_num.proofs.RoundingLaws.{scaled-no_larger}
use Rattle.pic_num.proofs.SizeLaws.{times_at_most}

-- a value times a multiplier
pub scaled_size : (v : ℤ) (by : Multiplier) (m : ℕ) → IsMultiplier by → IsAtMost v m → IsAtMost (scaled v by) (m * (2 ^ 31 - 1))
scaled_size v by m is small =
    let product : unsigned_abs (v *ℤ by.n) ≤ m * (2 ^ 31 - 1) = rw (unsigned_abs-mul v by.n)
    (times_at_most (unsigned_abs v) (unsigned_abs by.n) m (2 ^ 31 - 1) small.size is.n_in_range.size) in
    record { size = le_trans (scaled-no_larger v by) product }
