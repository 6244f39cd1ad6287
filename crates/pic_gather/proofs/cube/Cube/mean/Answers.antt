use Rattle.std.proofs.Common.{◌≡◌, ℤ, pos, ◌*◌, ◌^◌, ◌+ℤ◌, sym, subst, ap, ◌∙◌}
use lib.Signed.{shr_z}
use mir.Syntax.{w64}
use mir.Val.{SFits}
use Rattle.pic_num.specs.Limits.{most_force}
use Rattle.pic_num.specs.Rounding.{rounded}
use Rattle.pic_num.specs.Sizes.{IsAtMost}
use Rattle.pic_num.proofs.SizeLaws.{codes, code_is, code_fits}
use Rattle.pic_gather.specs.Cube.{IsCube}
use Rattle.pic_gather.specs.declared.cube.Cube.{Cube}
use Rattle.pic_gather.proofs.HalfLaws.{held, word, code_mean, mean_size}
use Rattle.pic_gather.proofs.cube.Cube.mean.Goals as goal

-- a mean held in either word is the mean
both_held : (r : ℤ) → IsAtMost r most_force → held (word r) ≡ r
both_held r small = code_is (search codes depth 6) tt

fits : (r : ℤ) → IsAtMost r most_force → SFits w64 (word r)
fits r small = code_fits w64 (search codes depth 6) tt

shift_is : (c : Cube) (sum half : ℤ) → IsCube c → half ≡ held c.half → IsAtMost sum (most_force * 2 ^ c.bits)
    → shr_z (word (word sum +ℤ word half)) (2 ^ c.bits) ≡ rounded sum (pos (2 ^ c.bits))
shift_is c sum half is half_is small = ap (λ h. shr_z (word (word sum +ℤ word h)) (2 ^ c.bits)) half_is ∙ code_mean c is sum small

pub overflow_cast-result-2 : goal.overflow_cast-result-2
overflow_cast-result-2 c =
    let is = shift_is c.args.self c.args.sum c.from.result c.requires.cube c.from.ensures c.requires.small in
    subst (λ z. SFits w64 (word z)) (sym is) (fits _ (mean_size c.args.sum c.args.self.bits c.requires.small))

pub returns-clause-value : goal.returns-clause-value
returns-clause-value c =
    let is = shift_is c.args.self c.args.sum c.from.result c.requires.cube c.from.ensures c.requires.small in
    ap (λ z. held (word z)) is ∙ both_held _ (mean_size c.args.sum c.args.self.bits c.requires.small)

pub returns-clause-size : goal.returns-clause-size
returns-clause-size c = subst (λ z. IsAtMost z most_force) (sym (returns-clause-value c)) (mean_size c.args.sum c.args.self.bits c.requires.small)
