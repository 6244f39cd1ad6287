use Rattle.std.proofs.Common.{◌≡◌, ℤ, pos, ◌%◌, ◌^◌, ◌+ℤ◌, ℕ, to_z, of_z, subst, sym, ◌∙◌, ap, arith}
use mathlib.Core.Path.{ap₂}
use lib.Signed.{shr_z}
use mir.Syntax.{w128}
use Rattle.pic_num.specs.Rounding.{rounded}
use Rattle.pic_num.specs.Sizes.{IsAtMost}
use Rattle.pic_num.proofs.RoundingLaws.{power_above_zero, rounded-no_larger}
use Rattle.pic_num.proofs.SizeLaws.{codes, code_fits, code_is}
use Rattle.pic_field.proofs.ShiftLaws.{half_shift}
use Rattle.pic_field.proofs.row.shifted.Goals as goal

pub overflow_add-result : goal.overflow_add-result
overflow_add-result c = code_fits w128 (search codes depth 12) tt

pub returns : goal.returns
returns c =
    let v = c.args.v in
    let k = c.args.k in
    let no_larger = rounded-no_larger v (pos (2 ^ k)) (power_above_zero k) in
    let v_size = c.requires.v.size in
    let size : IsAtMost (rounded v (pos (2 ^ k))) (2 ^ 90) = record { size = omega (arith, no_larger, v_size) } in
    let sum : to_z w128 (of_z w128 (to_z w128 (of_z w128 v) +ℤ to_z w128 (of_z w128 c.args.half))) ≡ v +ℤ c.args.half = code_is (search codes depth 12) tt in
    let bits : k % 64 ≡ k = omega (arith, c.requires.k) in
    let held : to_z w128 (of_z w128 (rounded v (pos (2 ^ k)))) ≡ rounded v (pos (2 ^ k)) = code_is (search codes depth 4) tt in
    let is =
    ap (λ (z : ℤ). to_z w128 (of_z w128 z))
    (ap₂ shr_z (sum ∙ ap (λ (h : ℤ). v +ℤ h) c.requires.half) (ap (λ (s : ℕ). 2 ^ s) bits) ∙ half_shift v k)
    ∙ held
    in
    record { value = is; size = subst (λ (z : ℤ). IsAtMost z (2 ^ 90)) (sym is) size }
