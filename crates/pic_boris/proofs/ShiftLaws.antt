-- Shifts in 64 bits.
use Rattle.std.proofs.Common.{◌≡◌, ℕ, ◌*◌, ◌%◌, ◌^◌, ◌≤◌, ap, ◌∙◌, arith}
use Rattle.std.proofs.Math.IntN.{pos}
use Rattle.std.proofs.Math.Pow.{pow_mono}
use Rattle.std.proofs.lemmas.Int.{to_z_pos}
use mir.Syntax.{w64}
use mir.Val.{to_z}
use Rattle.pic_num.specs.Sizes.{IsAtMost}

pub power_at_most : (most k : ℕ) → k ≤ most → IsAtMost (pos (2 ^ k)) (2 ^ most)
power_at_most most k h = record { size = pow_mono h }

-- what the code's `1 << k` is
pub shifted_at_most : (most k : ℕ) → k ≤ most → most ≤ 62 → 1 * 2 ^ k % 2 ^ 64 ≤ 2 ^ most
shifted_at_most most k h few =
    let less : 2 ^ k ≤ 2 ^ most = pow_mono h in
    let fits : 2 ^ most ≤ 2 ^ 62 = pow_mono few in
    omega (arith, less, fits)

pub shifted_is : (k : ℕ) → k ≤ 62 → to_z w64 (1 * 2 ^ k % 2 ^ 64) ≡ pos (2 ^ k)
shifted_is k h =
    let most : 2 ^ k ≤ 2 ^ 62 = pow_mono h in
    let e : 1 * 2 ^ k % 2 ^ 64 ≡ 2 ^ k = omega (arith, most) in
    ap (to_z w64) e ∙ to_z_pos w64 (2 ^ k) (omega (arith, most))
