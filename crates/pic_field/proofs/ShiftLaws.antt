-- A rounding by a power of two as a shift of the number and half of the power.
use Rattle.std.proofs.Common.{◌≡◌, ℕ, ◌/◌, ◌^◌, [], ◌∷◌, ap, sym, ◌∙◌, refl, arith}
use Rattle.std.proofs.Math.IntN.{ℤ, pos, negsuc, ◌+ℤ◌, ◌*ℤ◌}
use Rattle.std.specs.Prelude.{◌<ℤ◌}
use Rattle.std.specs.Int.{int_div_euclid}
use Rattle.std.proofs.lemmas.Int.{ints}
use lib.Signed.{shr_z}
use Rattle.pic_num.specs.Multiplier.{Multiplier}
use Rattle.pic_num.specs.Rounding.{IsRounded, rounded, scaled}
use Rattle.pic_num.proofs.ProductLaws.{*ℤ-one}
use Rattle.pic_num.proofs.Ring.{ring, reads}
use Rattle.pic_num.proofs.RoundingLaws.{floor-lower, floor-upper, rounded-unique, power_above_zero}

-- the floor of n and half of d, over d, is n / d rounded
floor_rounds : (n : ℤ) (d : ℕ) → pos 0 <ℤ pos d → IsRounded n (pos d) (int_div_euclid (n +ℤ pos (d / 2)) (pos d))
floor_rounds n d some =
    let r = int_div_euclid (n +ℤ pos (d / 2)) (pos d) in
    let low = floor-lower (n +ℤ pos (d / 2)) (pos d) some in
    let high = floor-upper (n +ℤ pos (d / 2)) (pos d) some in
    let twice : pos 2 *ℤ r *ℤ pos d ≡ pos 2 *ℤ (r *ℤ pos d) = ring (r ∷ pos d ∷ []) (search reads depth 40 fits 9000) tt in
    record { above = omega (arith, ints, high, twice); below = omega (arith, ints, low, twice) }

shr_floor : (z : ℤ) (d : ℕ) → shr_z z d ≡ int_div_euclid z (pos d)
shr_floor (pos a) d = refl
shr_floor (negsuc a) d = refl

pub half_shift : (n : ℤ) (k : ℕ) → shr_z (n +ℤ pos (2 ^ k / 2)) (2 ^ k) ≡ rounded n (pos (2 ^ k))
half_shift n k =
    shr_floor (n +ℤ pos (2 ^ k / 2)) (2 ^ k)
    ∙ rounded-unique n (pos (2 ^ k)) _ (power_above_zero k) (floor_rounds n (2 ^ k) (power_above_zero k))

-- where a multiplier's number is 1 it only divides
pub scaled_one : (v : ℤ) (by : Multiplier) → by.n ≡ pos 1 → rounded v (pos (2 ^ by.k)) ≡ scaled v by
unfolding scaled
scaled_one v by one = ap (λ (z : ℤ). rounded z (pos (2 ^ by.k))) (sym (*ℤ-one v) ∙ ap (λ (n : ℤ). v *ℤ n) (sym one))
