use Rattle.pic_yard.proofs.ReturnLaws.{back_allowed}
use Rattle.pic_yard.proofs.laws.returns_keep_the_rule.Goals as goal

pub returns : goal.returns
returns c = back_allowed
