use Rattle.std.proofs.Common.{◌≡◌, pos, ◌-ℤ◌, ◌*ℤ◌, to_z, of_z, ◌∙◌}
use mir.Syntax.{w64}
use Rattle.std.proofs.lemmas.Int.{to_z-of_z}
use Rattle.pic_num.proofs.SizeLaws.{codes, code_fits, code_is}
use Rattle.pic_boris.proofs.narrow_turning.rest_of.Goals as goal

pub overflow_sub-result : goal.overflow_sub-result
overflow_sub-result c = code_fits w64 (search codes depth 14) tt

pub returns : goal.returns
returns c =
    let d_is : to_z w64 (of_z w64 c.args.divisor) ≡ c.args.divisor = to_z-of_z w64 c.args.divisor c.ranges.divisor in
    code_is (search codes depth 16) tt
    ∙ (λ i. c.args.dividend -ℤ c.args.guess *ℤ c.twice.ensures.value i)
    ∙ (λ i. c.args.dividend -ℤ c.args.guess *ℤ (pos 2 *ℤ d_is i))
