use mir.Syntax.{w64}
use Rattle.pic_num.proofs.SizeLaws.{codes, code_fits, code_is, code_at_most}
use Rattle.pic_boris.proofs.narrow.minor.Goals as goal

pub overflow_sub-result : goal.overflow_sub-result
overflow_sub-result c = code_fits w64 (search codes depth 14) tt

pub returns-clause-value : goal.returns-clause-value
returns-clause-value c = code_is (search codes depth 18) tt

pub returns-clause-size : goal.returns-clause-size
returns-clause-size c = code_at_most (search codes depth 18) tt
