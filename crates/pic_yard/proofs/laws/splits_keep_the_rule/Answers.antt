use Rattle.pic_yard.proofs.TeamLaws.{split_allowed}
use Rattle.pic_yard.proofs.laws.splits_keep_the_rule.Goals as goal

pub returns : goal.returns
returns c = split_allowed
