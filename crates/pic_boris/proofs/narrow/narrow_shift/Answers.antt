use Rattle.std.proofs.Common.{◌≡◌, ℤ, pos, ◌^◌, ◌+◌, ◌*◌, ◌%◌, ◌≤◌, ◌+ℤ◌, ◌*ℤ◌, unsigned_abs, to_z, of_z, subst, sym, ◌∙◌, ap, arith}
use lib.Signed.{shr_z}
use mir.Syntax.{w64}
use Rattle.pic_num.specs.Rounding.{rounded}
use Rattle.pic_num.specs.Sizes.{IsAtMost}
use Rattle.pic_num.proofs.RoundingLaws.{power_above_zero, rounded-no_larger, rounded-shr}
use Rattle.pic_num.proofs.SizeLaws.{codes, code_fits, code_is}
use Rattle.pic_boris.proofs.ShiftLaws.{power_at_most, shifted_at_most, shifted_is}
use Rattle.pic_boris.proofs.narrow.narrow_shift.Goals as goal

pub overflow_add-result : goal.overflow_add-result
overflow_add-result c =
    let power = shifted_at_most 60 c.args.k c.requires.k_in_range (omega arith) in
    code_fits w64 (search codes depth 12) tt

pub returns : goal.returns
returns c =
    let n = c.args.n in
    let k = c.args.k in
    let power : IsAtMost (pos (2 ^ k)) (2 ^ 60) = power_at_most 60 k c.requires.k_in_range in
    let no_larger = rounded-no_larger n (pos (2 ^ k)) (power_above_zero k) in
    let n_size = c.requires.n_in_range.size in
    let size : IsAtMost (rounded n (pos (2 ^ k))) (2 ^ 61) = record { size = omega (arith, no_larger, n_size) } in
    let twice : to_z w64 (of_z w64 (pos 2 *ℤ to_z w64 (of_z w64 n))) ≡ pos 2 *ℤ n = code_is (search codes depth 12) tt in
    let added : to_z w64 (1 * 2 ^ k % 2 ^ 64) ≡ pos (2 ^ k) = shifted_is k (let most = c.requires.k_in_range in omega (arith, most)) in
    let sum : to_z w64 (of_z w64 (pos 2 *ℤ n +ℤ pos (2 ^ k))) ≡ pos 2 *ℤ n +ℤ pos (2 ^ k) = code_is (search codes depth 12) tt in
    let held : to_z w64 (of_z w64 (rounded n (pos (2 ^ k)))) ≡ rounded n (pos (2 ^ k)) = code_is (search codes depth 4) tt in
    let is =
    ap (λ (z : ℤ). to_z w64 (of_z w64 z))
    (ap (λ (z : ℤ). shr_z z (2 ^ (k + 1))) ((λ i. to_z w64 (of_z w64 (twice i +ℤ added i))) ∙ sum)
    ∙ rounded-shr n k)
    ∙ held
    in
    record { value = is; size = subst (λ (z : ℤ). unsigned_abs z ≤ unsigned_abs n) (sym is) no_larger }
