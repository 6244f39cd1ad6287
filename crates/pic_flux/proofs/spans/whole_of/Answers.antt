use mir.Syntax.{w64}
use Rattle.pic_num.proofs.SizeLaws.{codes, code_fits, code_is, code_at_most}
use Rattle.pic_flux.proofs.spans.whole_of.Goals as goal

pub overflow_mul-result : goal.overflow_mul-result
overflow_mul-result c = code_fits w64 (search codes depth 8) tt

pub overflow_mul-result-2 : goal.overflow_mul-result-2
overflow_mul-result-2 c = code_fits w64 (search codes depth 8) tt

pub returns : goal.returns
returns c = record { value = code_is (search codes depth 8) tt; size = code_at_most (search codes depth 8) tt }
