use Rattle.std.proofs.Common.{◌≡◌, ℤ, pos, ◌^◌, ◌-◌, ◌+◌, ◌*◌, ◌%◌, ◌≤◌, ◌+ℤ◌, ◌*ℤ◌, ℕ, to_z, of_z, subst, sym, ◌∙◌, ap, arith}
use mathlib.Core.Path.{ap₂}
use lib.Signed.{shr_z}
use mir.Syntax.{w32, w64}
use Rattle.pic_num.specs.Sizes.{IsAtMost}
use Rattle.pic_num.specs.Rounding.{scaled}
use Rattle.pic_num.proofs.SizeLaws.{codes, code_fits, code_is, code_at_most}
use Rattle.pic_num.proofs.RoundingLaws.{scaled-shr, scaled-no_larger}
use Rattle.pic_boris.proofs.ShiftLaws.{power_at_most, shifted_at_most, shifted_is}
use Rattle.pic_boris.proofs.narrow.scale_narrow.Goals as goal

-- the multiplier's n, widened by the code
widened : (m r : ℤ) → r ≡ to_z w32 (of_z w32 m) → IsAtMost m (2 ^ 31 - 1) → r ≡ m
widened m r e h = e ∙ code_is (search codes depth 4) tt

pub overflow_add-result : goal.overflow_add-result
overflow_add-result c =
    let n_is = widened c.n.result c.from-n.result c.from-n.ensures c.n.ensures.size in
    let n_size : IsAtMost c.from-n.result (2 ^ 31 - 1) = subst (λ (z : ℤ). IsAtMost z (2 ^ 31 - 1)) (sym n_is) c.n.ensures.size in
    let power = shifted_at_most 62 c.k-k.result c.k-k.ensures.most (omega arith) in
    code_fits w64 (search codes depth 20) tt

pub returns : goal.returns
returns c =
    let v = c.args.v in
    let by = c.args.by in
    let n_is = widened c.n.result c.from-n.result c.from-n.ensures c.n.ensures.size in
    let n_size : IsAtMost c.from-n.result (2 ^ 31 - 1) = subst (λ (z : ℤ). IsAtMost z (2 ^ 31 - 1)) (sym n_is) c.n.ensures.size in
    let by_size : IsAtMost by.n (2 ^ 31 - 1) = subst (λ (z : ℤ). IsAtMost z (2 ^ 31 - 1)) c.n.ensures.value c.n.ensures.size in
    let most : by.k ≤ 62 = subst (λ (k : ℕ). k ≤ 62) c.k-k.ensures.value c.k-k.ensures.most in
    let product : IsAtMost (v *ℤ by.n) (2 ^ 28 * (2 ^ 31 - 1)) = code_at_most (search codes depth 6) tt in
    let no_larger = scaled-no_larger v by in
    let size : IsAtMost (scaled v by) (2 ^ 60) = record { size = omega (arith, no_larger, product.size) } in
    let power : IsAtMost (pos (2 ^ by.k)) (2 ^ 62) = power_at_most 62 by.k most in
    let twice : to_z w64 (of_z w64 (to_z w64 (of_z w64 (pos 2 *ℤ to_z w64 (of_z w64 v))) *ℤ to_z w64 (of_z w64 c.from-n.result))) ≡ pos 2 *ℤ v *ℤ by.n =
    code_is (search codes depth 20) tt ∙ ap (λ (n : ℤ). pos 2 *ℤ v *ℤ n) (n_is ∙ c.n.ensures.value)
    in
    let added : to_z w64 (1 * 2 ^ c.k-k.result % 2 ^ 64) ≡ pos (2 ^ by.k) =
    shifted_is c.k-k.result c.k-k.ensures.most ∙ ap (λ k. pos (2 ^ k)) c.k-k.ensures.value
    in
    let sum : to_z w64 (of_z w64 (pos 2 *ℤ v *ℤ by.n +ℤ pos (2 ^ by.k))) ≡ pos 2 *ℤ v *ℤ by.n +ℤ pos (2 ^ by.k) = code_is (search codes depth 20) tt in
    let held : to_z w64 (of_z w64 (scaled v by)) ≡ scaled v by = code_is (search codes depth 4) tt in
    let is =
    ap (λ (z : ℤ). to_z w64 (of_z w64 z))
    (ap₂ shr_z
    ((λ i. to_z w64 (of_z w64 (twice i +ℤ added i))) ∙ sum)
    (ap (λ k. 2 ^ (k + 1)) c.k-k.ensures.value)
    ∙ scaled-shr v by)
    ∙ held
    in
    record { value = is; size = subst (λ (z : ℤ). IsAtMost z (2 ^ 60)) (sym is) size }
