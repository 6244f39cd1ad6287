-- A rounding by a power of two is a shift after half that power is added: a mean over the cube of a
-- cell's side.
use Rattle.std.proofs.Common.{◌≡◌, ℕ, ℤ, pos, negsuc, ◌+◌, ◌-◌, ◌*◌, ◌^◌, ◌≤◌, ◌+ℤ◌, ◌*ℤ◌, [], ◌∷◌, add-one, refl, sym, subst, ◌∙◌, ap, arith}
use Rattle.std.proofs.Math.Nat.{pow-succ'}
use Rattle.std.proofs.Math.Pow.{pow_mono}
use Rattle.std.specs.Int.{int_div_euclid}
use Rattle.std.proofs.lemmas.Int.{ints}
use lib.Signed.{shr_z}
use mir.Syntax.{w64, w128}
use mir.Val.{to_z, of_z}
use Rattle.pic_num.specs.Limits.{most_force}
use Rattle.pic_num.specs.Rounding.{rounded}
use Rattle.pic_num.specs.Sizes.{IsAtMost}
use Rattle.pic_num.proofs.Ring.{ring, reads}
use Rattle.pic_num.proofs.RoundingLaws.{floor-lower, floor-upper, rounded-unique, rounded-size, power_above_zero}
use Rattle.pic_num.proofs.SizeLaws.{codes, code_is}
use Rattle.pic_gather.specs.Cube.{IsCube}
use Rattle.pic_gather.specs.declared.cube.Cube.{Cube}

shr_floor : (x : ℤ) (m : ℕ) → shr_z x m ≡ int_div_euclid x (pos m)
shr_floor (pos a) m = refl
shr_floor (negsuc a) m = refl

twice : (r d : ℤ) → pos 2 *ℤ r *ℤ d ≡ pos 2 *ℤ (r *ℤ d)
twice r d = ring (r ∷ d ∷ []) (search reads depth 40 fits 9000) tt

pub rounded_half : (n : ℤ) (k : ℕ) → shr_z (n +ℤ pos (2 ^ k)) (2 ^ (k + 1)) ≡ rounded n (pos (2 ^ (k + 1)))
rounded_half n k =
    let d : ℤ = pos (2 ^ (k + 1)) in
    let r : ℤ = int_div_euclid (n +ℤ pos (2 ^ k)) d in
    let above = power_above_zero (k + 1) in
    let low = floor-lower (n +ℤ pos (2 ^ k)) d above in
    let high = floor-upper (n +ℤ pos (2 ^ k)) d above in
    let both : 2 ^ (k + 1) ≡ 2 * 2 ^ k = ap (λ n. 2 ^ n) (add-one k) ∙ pow-succ' 2 k in
    let product = twice r d in
    shr_floor (n +ℤ pos (2 ^ k)) (2 ^ (k + 1))
    ∙ rounded-unique n d r above (record { above = omega (arith, ints, high, product, both); below = omega (arith, ints, low, product, both) })

-- a number as a word of 64 bits holds it, and one of 128
abbrev pub held : ℤ → ℤ
held z = to_z w64 (of_z w64 z)

abbrev pub word : ℤ → ℤ
word z = to_z w128 (of_z w128 z)

-- a mean over 2^b is a shift,
pub mean_is : (sum : ℤ) (b : ℕ) → 1 ≤ b → shr_z (sum +ℤ pos (2 ^ (b - 1))) (2 ^ b) ≡ rounded sum (pos (2 ^ b))
mean_is sum b some =
    let next : b - 1 + 1 ≡ b = omega (arith, some) in
    ap (λ m. shr_z (sum +ℤ pos (2 ^ (b - 1))) (2 ^ m)) (sym next) ∙ rounded_half sum (b - 1) ∙ ap (λ m. rounded sum (pos (2 ^ m))) next

-- and that of forces is no larger than the largest
pub mean_size : (sum : ℤ) (b : ℕ) → IsAtMost sum (most_force * 2 ^ b) → IsAtMost (rounded sum (pos (2 ^ b))) most_force
mean_size sum b small =
    let above = power_above_zero b in
    let sum_size = small.size in
    record { size = rounded-size sum (pos (2 ^ b)) most_force (2 ^ b) (omega (arith, ints, above)) (omega (arith, ints)) (omega (arith, sum_size)) }

-- of a cube that is none too long
module _ (c : Cube) (is : IsCube c)
  where
    pub half_size : IsAtMost c.half (2 ^ 41)
    half_size =
        let few : c.bits - 1 ≤ 41 = omega (arith, is.most) in
        subst (λ (z : ℤ). IsAtMost z (2 ^ 41)) (sym is.half) (record { size = pow_mono few })

    sum_most : (sum : ℤ) → IsAtMost sum (most_force * 2 ^ c.bits) → IsAtMost sum (2 ^ 86)
    sum_most sum small =
        let few : 2 ^ c.bits ≤ 2 ^ 42 = pow_mono is.most in
        let sum_size = small.size in
        record { size = omega (arith, few, sum_size) }

    -- what the code computes is that mean
    pub code_mean : (sum : ℤ) → IsAtMost sum (most_force * 2 ^ c.bits) → shr_z (word (word sum +ℤ word (held c.half))) (2 ^ c.bits) ≡ rounded sum (pos (2 ^ c.bits))
    code_mean sum small =
        let half = half_size in
        let room = sum_most sum small in
        let plain : word (word sum +ℤ word (held c.half)) ≡ sum +ℤ c.half = code_is (search codes depth 14) tt in
        (λ i. shr_z (plain i) (2 ^ c.bits)) ∙ (λ i. shr_z (sum +ℤ is.half i) (2 ^ c.bits)) ∙ mean_is sum c.bits is.least

    -- and in 64 bits, where the sum is small
    pub code_weak_mean : (sum : ℤ) → IsAtMost sum (2 ^ 62) → shr_z (held (held sum +ℤ held c.half)) (2 ^ c.bits) ≡ rounded sum (pos (2 ^ c.bits))
    code_weak_mean sum small =
        let half = half_size in
        let plain : held (held sum +ℤ held c.half) ≡ sum +ℤ c.half = code_is (search codes depth 14) tt in
        (λ i. shr_z (plain i) (2 ^ c.bits)) ∙ (λ i. shr_z (sum +ℤ is.half i) (2 ^ c.bits)) ∙ mean_is sum c.bits is.least
