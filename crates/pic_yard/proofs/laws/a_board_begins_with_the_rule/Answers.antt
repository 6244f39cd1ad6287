use Rattle.pic_yard.proofs.BeginLaws.{begins}
use Rattle.pic_yard.proofs.laws.a_board_begins_with_the_rule.Goals as goal

pub returns : goal.returns
returns c = begins
