use Rattle.std.proofs.Common.{◌∙◌, arith}
use Rattle.std.proofs.Math.IntN.{pos}
use Rattle.std.proofs.lemmas.List.{get_or-set_same, get_or-set_other}
use Rattle.pic_num.proofs.SizeLaws.{code_is, codes}
use Rattle.pic_block.proofs.layers.add_number.Goals as goal

pub returns-clause-sum : goal.returns-clause-sum
returns-clause-sum c =
    let next = c.requires.small.at_most c.args.start in
    get_or-set_same c.args.to.now c.args.at _ (pos 0) (omega arith) ∙ code_is (search codes depth 12) tt

pub returns-clause-others : goal.returns-clause-others
returns-clause-others c = λ k other. get_or-set_other c.args.to.now c.args.at k _ (pos 0) other
