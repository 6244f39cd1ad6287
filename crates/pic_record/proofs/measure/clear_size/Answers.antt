use Rattle.std.proofs.Common.{◌≡◌, ◌*◌, ◌^◌, ◌≤◌, ◌/◌, ◌%◌, ℕ, ℤ, pos, unsigned_abs, ◌*ℤ◌, ◌≤ℤ◌, to_z, of_z, sym, ◌∙◌, ap, subst, pow_pos, arith}
use Rattle.std.proofs.lemmas.Int.{ints, unsigned_abs-mul}
use Rattle.std.proofs.Math.Nat.{div-mul-le_self, mul-le-mul_left, mul-le-mul_right, mod-eq_of_lt}
use Rattle.std.proofs.Math.Pow.{pow_mono}
use mir.Syntax.{w32}
use Rattle.pic_num.specs.Multiplier.{Multiplier}
use Rattle.pic_num.specs.Rounding.{scaled}
use Rattle.pic_num.proofs.RoundingLaws.{rounded-size}
use Rattle.pic_num.proofs.SizeLaws.{codes, code_is}
use Rattle.pic_record.specs.FrameFields.{IsModerate}
use Rattle.pic_record.proofs.measure.clear_size.Goals as goal

-- a value that times the multiplier's number is at most 2^44 2^k in size is moderate
moderate : (by : Multiplier) (v : ℤ) → unsigned_abs v ≤ 2 ^ 90 → unsigned_abs v * unsigned_abs by.n ≤ 2 ^ 44 * 2 ^ by.k → IsModerate by v
unfolding scaled
moderate by v small product =
    let least : pos (2 ^ by.k) ≤ℤ pos (2 ^ by.k) = omega (arith, ints) in
    let size : unsigned_abs (v *ℤ by.n) ≤ 2 ^ 44 * 2 ^ by.k = subst (λ m. m ≤ 2 ^ 44 * 2 ^ by.k) (sym (unsigned_abs-mul v by.n)) product in
    record {
      value = record { size = small };
      force = record { size = rounded-size (v *ℤ by.n) (pos (2 ^ by.k)) (2 ^ 44) (2 ^ by.k) (pow_pos by.k) least size };
    }

-- a size up to a quotient, times a number up to the divisor, is at most the dividend
below_quotient : (v p d n : ℕ) → v ≤ p / d → n ≤ d → v * n ≤ p
below_quotient v p d n below no_larger =
    let up : v * d ≤ p / d * d = mul-le-mul_right d below in
    let more : v * n ≤ v * d = mul-le-mul_left v no_larger in
    let least : p / d * d ≤ p = div-mul-le_self p d in
    omega (arith, up, more, least)

pub returns : goal.returns
returns c = λ v small.
    let by = c.args.by in
    let held : to_z w32 (of_z w32 c.n.result) ≡ c.n.result = code_is (search codes depth 6) tt in
    let number : c.from-size.result ≡ unsigned_abs by.n = c.from-size.ensures ∙ c.unsigned_abs.ensures.value ∙ ap unsigned_abs (held ∙ c.n.ensures.value) in
    let power : 2 ^ c.k.result ≤ 2 ^ 62 = pow_mono c.k.ensures.most in
    let whole : 2 ^ 44 * 2 ^ c.k.result % 2 ^ 128 ≡ 2 ^ 44 * 2 ^ by.k =
    mod-eq_of_lt (omega (arith, power)) ∙ ap (λ k. 2 ^ 44 * 2 ^ k) c.k.ensures.value in
    let most = subst (λ m. unsigned_abs v ≤ m) c.min.ensures small.size in
    let quotient : unsigned_abs v ≤ 2 ^ 44 * 2 ^ c.k.result % 2 ^ 128 / c.max.result = omega (arith, most) in
    let larger : unsigned_abs by.n ≤ c.max.result = omega (arith, c.max.ensures, number) in
    moderate by v (omega (arith, most)) (below_quotient _ _ c.max.result _ (subst (λ m. unsigned_abs v ≤ m / c.max.result) whole quotient) larger)
