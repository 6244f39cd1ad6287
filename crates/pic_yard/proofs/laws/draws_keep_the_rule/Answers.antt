use Rattle.pic_yard.proofs.DrawLaws.{draw_allowed}
use Rattle.pic_yard.proofs.laws.draws_keep_the_rule.Goals as goal

pub returns : goal.returns
returns c = draw_allowed
