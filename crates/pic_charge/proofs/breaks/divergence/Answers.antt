use Rattle.std.proofs.Common.{◌∙◌, arith}
use Rattle.std.proofs.lemmas.Int.{ints}
use Rattle.pic_num.proofs.SizeLaws.{codes, code_is}
use Rattle.pic_charge.proofs.breaks.divergence.Goals as goal

pub returns : goal.returns
returns c =
    let x = c.outflow-along_x.ensures.value in
    let y = c.outflow-along_y.ensures.value in
    let z = c.outflow-along_z.ensures.value in
    code_is (search codes depth 18) tt ∙ omega (arith, ints, x, y, z)
