use Rattle.std.proofs.Common.{◌≡◌, ◌-◌, ◌*◌, ◌^◌, ◌<◌, ◌≤◌, ◌/◌, ◌%◌, min, to_z, of_z, ◌*ℤ◌, ◌≤ℤ◌, ℕ, ℤ, pos, unsigned_abs, sym, ◌∙◌, ap, subst, pow_pos, arith}
use Rattle.std.proofs.lemmas.Int.{ints, unsigned_abs-mul}
use Rattle.pic_num.specs.Multiplier.{Multiplier}
use Rattle.pic_num.specs.Rounding.{scaled}
use Rattle.pic_num.specs.Sizes.{IsAtMost}
use Rattle.pic_num.proofs.RoundingLaws.{rounded-size}
use Rattle.pic_num.proofs.SizeLaws.{codes, code_is}
use Rattle.std.proofs.Math.Nat.{mul-le-mul_right, div-mul-le_self, mod-eq_of_lt}
use Rattle.std.proofs.Math.Pow.{pow_mono}
use mir.Syntax.{w32}
use Rattle.pic_field.specs.FieldPhases.{IsBounded}
use Rattle.pic_field.proofs.faults.safe_most.Goals as goal
use Rattle.pic_field.proofs.faults.safe_most.Goals.{After-from-size}

-- a value is safe where it times the multiplier's number is small enough
safe : (by : Multiplier) (v : ℤ) → IsAtMost v (2 ^ 90) → unsigned_abs v * unsigned_abs by.n ≤ 2 ^ 44 * 2 ^ by.k → IsBounded by v
unfolding scaled
safe by v small product =
    let least : pos (2 ^ by.k) ≤ℤ pos (2 ^ by.k) = omega (arith, ints) in
    let size : unsigned_abs (v *ℤ by.n) ≤ 2 ^ 44 * 2 ^ by.k = subst (λ (m : ℕ). m ≤ 2 ^ 44 * 2 ^ by.k) (sym (unsigned_abs-mul v by.n)) product in
    record { value = small; force = record { size = rounded-size (v *ℤ by.n) (pos (2 ^ by.k)) (2 ^ 44) (2 ^ by.k) (pow_pos by.k) least size } }

-- the size of the multiplier's number, as the code has it
number : (c : After-from-size) → c.from-size.result ≡ unsigned_abs c.args.by.n
number c =
    let small : IsAtMost c.n.result (2 ^ 31 - 1) = c.n.ensures.size in
    let held : to_z w32 (of_z w32 c.n.result) ≡ c.n.result = code_is (search codes depth 6) tt in
    c.from-size.ensures ∙ c.unsigned_abs.ensures.value ∙ ap unsigned_abs (held ∙ c.n.ensures.value)

pub returns-then-size-eq0 : goal.returns-then-size-eq0
returns-then-size-eq0 c = λ v small.
    let none : 0 ≡ unsigned_abs c.args.by.n = sym c.if-size-eq0.true ∙ number (goal.at.returns-then-size-eq0 c).After-from-size in
    safe c.args.by v small (subst (λ (m : ℕ). unsigned_abs v * m ≤ 2 ^ 44 * 2 ^ c.args.by.k) none (omega arith))

-- a size below a quotient, times the divisor, is below the dividend
below_quotient : (v m p s : ℕ) → v ≤ p / s → v * s ≤ p
below_quotient v m p s below =
    let up : v * s ≤ p / s * s = mul-le-mul_right s below in
    let least : p / s * s ≤ p = div-mul-le_self p s in
    omega (arith, up, least)

pub returns : goal.returns
returns c = λ v small.
    let k : c.k.result ≡ c.args.by.k = c.k.ensures.value in
    let power : 2 ^ c.k.result ≤ 2 ^ 62 = pow_mono c.k.ensures.most in
    let room : 17592186044416 * 2 ^ c.k.result < 340282366920938463463374607431768211456 = omega arith in
    let whole : 17592186044416 * 2 ^ c.k.result % 340282366920938463463374607431768211456 ≡ 17592186044416 * 2 ^ c.k.result = mod-eq_of_lt room in
    let most : unsigned_abs v ≤ min (17592186044416 * 2 ^ c.k.result % 340282366920938463463374607431768211456 / c.from-size.result) (2 ^ 90) =
    subst (λ (m : ℕ). unsigned_abs v ≤ m) c.min.ensures small.size in
    let value : unsigned_abs v ≤ 2 ^ 90 = omega (arith, most) in
    let quotient : unsigned_abs v ≤ 17592186044416 * 2 ^ c.k.result % 340282366920938463463374607431768211456 / c.from-size.result = omega (arith, most) in
    let product = below_quotient (unsigned_abs v) 0 (17592186044416 * 2 ^ c.k.result) c.from-size.result
    (subst (λ (m : ℕ). unsigned_abs v ≤ m / c.from-size.result) whole quotient) in
    safe c.args.by v (record { size = value })
    (subst (λ (m : ℕ). unsigned_abs v * m ≤ 2 ^ 44 * 2 ^ c.args.by.k) (number (goal.at.returns c).After-from-size)
    (subst (λ (m : ℕ). unsigned_abs v * c.from-size.result ≤ 2 ^ 44 * 2 ^ m) k product))
