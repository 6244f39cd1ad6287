use mir.Syntax.{w64}
use Rattle.pic_num.proofs.SizeLaws.{codes, code_fits}
use Rattle.pic_flux.proofs.FluxSizeLaws.{widened_small}
use Rattle.pic_flux.proofs.edges.are_among.Goals as goal

pub overflow_sub-above : goal.overflow_sub-above
overflow_sub-above c =
    let place = widened_small c.args.c c.from.result c.ranges.c c.from.ensures in
    let low = widened_small c.args.low c.from-2.result c.ranges.low c.from-2.ensures in
    code_fits w64 (search codes depth 8) tt

pub overflow_add-result : goal.overflow_add-result
overflow_add-result c =
    let place = widened_small c.args.c c.from.result c.ranges.c c.from.ensures in
    let low = widened_small c.args.low c.from-2.result c.ranges.low c.from-2.ensures in
    code_fits w64 (search codes depth 8) tt
