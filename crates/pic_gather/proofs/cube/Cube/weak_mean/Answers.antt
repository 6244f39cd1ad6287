use Rattle.std.proofs.Common.{◌≡◌, ℤ, sym, subst, ap, ◌∙◌}
use mir.Syntax.{w64}
use Rattle.pic_num.specs.Limits.{most_force}
use Rattle.pic_num.specs.Sizes.{IsAtMost}
use Rattle.pic_num.proofs.SizeLaws.{codes, code_is, code_fits}
use Rattle.pic_gather.proofs.HalfLaws.{held, code_weak_mean, half_size, mean_size}
use Rattle.pic_gather.proofs.cube.Cube.weak_mean.Goals as goal

-- a mean held in its word is the mean
held_mean : (r : ℤ) → IsAtMost r most_force → held r ≡ r
held_mean r small = code_is (search codes depth 6) tt

pub overflow_add-result : goal.overflow_add-result
overflow_add-result c =
    let sum = c.requires.small in
    let half = half_size c.args.self c.requires.cube in
    code_fits w64 (search codes depth 14) tt

pub returns-clause-value : goal.returns-clause-value
returns-clause-value c =
    ap held (code_weak_mean c.args.self c.requires.cube c.args.sum c.requires.small) ∙ held_mean _ (mean_size c.args.sum c.args.self.bits c.requires.forces)

pub returns-clause-size : goal.returns-clause-size
returns-clause-size c = subst (λ z. IsAtMost z most_force) (sym (returns-clause-value c)) (mean_size c.args.sum c.args.self.bits c.requires.forces)
