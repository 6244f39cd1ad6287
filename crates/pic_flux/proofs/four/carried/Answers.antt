use Rattle.pic_num.proofs.SizeLaws.{codes, code_is, code_at_most}
use Rattle.pic_flux.proofs.four.carried.Goals as goal

pub returns : goal.returns
returns c = record { value = code_is (search codes depth 24) tt; size = code_at_most (search codes depth 24) tt }
