use mir.Syntax.{w128}
use Rattle.pic_num.proofs.SizeLaws.{codes, code_fits, code_is, code_at_most}
use Rattle.pic_block.proofs.fours.product.Goals as goal

pub overflow_mul-result : goal.overflow_mul-result
overflow_mul-result c = rw (c.from.ensures, c.from-2.ensures) (code_fits w128 (search codes depth 12) tt)

pub returns : goal.returns
returns c =
    rw (c.from.ensures, c.from-2.ensures)
    (record { value = code_is (search codes depth 12) tt; size = code_at_most (search codes depth 12) tt })
