use Rattle.std.proofs.Common.{◌≡◌, ℤ, pos, ◌^◌, ◌+◌, ◌*◌, ◌%◌, ◌+ℤ◌, ◌*ℤ◌, to_z, of_z, subst, sym, ◌∙◌, ap, arith}
use lib.Signed.{shr_z}
use mir.Syntax.{w128}
use Rattle.pic_num.specs.Rounding.{rounded}
use Rattle.pic_num.specs.Sizes.{IsAtMost}
use Rattle.pic_num.proofs.RoundingLaws.{shifted, power_size, power_above_zero, rounded-no_larger}
use Rattle.pic_num.proofs.SizeLaws.{codes, code_is}
use Rattle.pic_num.proofs.RoundingLaws.{rounded-shr}
use Rattle.pic_boris.proofs.vector.rounded_shift.Goals as goal

pub returns : goal.returns
returns c =
    let n = c.args.n in
    let k = c.args.k in
    let power : IsAtMost (pos (2 ^ k)) (2 ^ 62) = power_size k c.requires.k_in_range in
    let no_larger = rounded-no_larger n (pos (2 ^ k)) (power_above_zero k) in
    let n_size = c.requires.n_in_range.size in
    let size : IsAtMost (rounded n (pos (2 ^ k))) (2 ^ 122) = record { size = omega (arith, no_larger, n_size) } in
    let twice : to_z w128 (of_z w128 (pos 2 *ℤ to_z w128 (of_z w128 n))) ≡ pos 2 *ℤ n = code_is (search codes depth 12) tt in
    let added : to_z w128 (1 * 2 ^ k % 2 ^ 128) ≡ pos (2 ^ k) = shifted k c.requires.k_in_range in
    let sum : to_z w128 (of_z w128 (pos 2 *ℤ n +ℤ pos (2 ^ k))) ≡ pos 2 *ℤ n +ℤ pos (2 ^ k) = code_is (search codes depth 12) tt in
    let held : to_z w128 (of_z w128 (rounded n (pos (2 ^ k)))) ≡ rounded n (pos (2 ^ k)) = code_is (search codes depth 4) tt in
    let is =
    ap (λ (z : ℤ). to_z w128 (of_z w128 z))
    (ap (λ (z : ℤ). shr_z z (2 ^ (k + 1))) ((λ i. to_z w128 (of_z w128 (twice i +ℤ added i))) ∙ sum)
    ∙ rounded-shr n k)
    ∙ held
    in
    record { value = is; size = subst (λ (z : ℤ). IsAtMost z (2 ^ 122)) (sym is) size }
