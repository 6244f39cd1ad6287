use Rattle.std.proofs.Common.{◌-ℤ◌, ◌*ℤ◌, ◌∙◌}
use mir.Syntax.{w64}
use Rattle.pic_num.proofs.SizeLaws.{codes, code_fits, code_is}
use Rattle.pic_flux.proofs.FluxSizeLaws.{widened_is, widened_small}
use Rattle.pic_flux.proofs.weights.above.Goals as goal

pub overflow_mul-result : goal.overflow_mul-result
overflow_mul-result c =
    let cell = widened_small c.args.c c.from-2.result c.ranges.c c.from-2.ensures in
    code_fits w64 (search codes depth 8) tt

pub overflow_sub-result : goal.overflow_sub-result
overflow_sub-result c =
    let place = widened_small c.args.p c.from.result c.ranges.p c.from.ensures in
    let cell = widened_small c.args.c c.from-2.result c.ranges.c c.from-2.ensures in
    code_fits w64 (search codes depth 8) tt

pub returns : goal.returns
returns c =
    let place = widened_small c.args.p c.from.result c.ranges.p c.from.ensures in
    let cell = widened_small c.args.c c.from-2.result c.ranges.c c.from-2.ensures in
    let place_is = widened_is c.args.p c.from.result c.ranges.p c.from.ensures in
    let cell_is = widened_is c.args.c c.from-2.result c.ranges.c c.from-2.ensures in
    code_is (search codes depth 8) tt ∙ (λ i. place_is i -ℤ cell_is i *ℤ c.args.side)
