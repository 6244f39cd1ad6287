use Rattle.pic_step.proofs.KeepLaws.{step_keeps}
use Rattle.pic_step.proofs.laws.law_of_the_step.Goals as goal

pub returns : goal.returns
returns c = step_keeps
