use Rattle.std.proofs.Common.{◌∙◌}
use Rattle.std.proofs.lemmas.Int.{to_z-of_z}
use mir.Syntax.{w128}
use mir.Val.{SFits}
use Rattle.pic_num.specs.Rounding.{rounded}
use Rattle.pic_grid.specs.Gather.{gathered}
use Rattle.pic_laws.proofs.SlowSums.{cube}
use Rattle.pic_laws.proofs.slow.slow_gather.Goals as goal

pub returns : goal.returns
unfolding gathered
returns c =
    let sum_fits : SFits w128 c.whole-sum.result = record { sfits = c.whole-sum.type_inv } in
    let fits : SFits w128 c.rdiv.result = record { sfits = c.rdiv.type_inv } in
    let sum_is = to_z-of_z w128 c.whole-sum.result sum_fits ∙ c.whole-sum.ensures.value in
    let divisor_is = cube c.args.side c.from-side.result c.from-side.ensures c.requires.side_most in
    to_z-of_z w128 c.rdiv.result fits ∙ c.rdiv.ensures.value ∙ (λ i. rounded (sum_is i) (divisor_is i))
