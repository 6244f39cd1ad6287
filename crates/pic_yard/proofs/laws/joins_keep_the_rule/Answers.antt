use Rattle.pic_yard.proofs.TeamLaws.{join_allowed}
use Rattle.pic_yard.proofs.laws.joins_keep_the_rule.Goals as goal

pub returns : goal.returns
returns c = join_allowed
