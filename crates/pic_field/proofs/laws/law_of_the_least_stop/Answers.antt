use Rattle.pic_field.proofs.LeastStopLaws.{least_stop}
use Rattle.pic_field.proofs.laws.law_of_the_least_stop.Goals as goal

pub returns : goal.returns
returns c = least_stop
