use Rattle.pic_yard.proofs.TeamLaws.{over}
use Rattle.pic_yard.proofs.laws.the_last_seat_ends_all.Goals as goal

pub returns : goal.returns
returns c = over
