use Rattle.pic_laws.proofs.LeastStrongLaws.{least_strong}
use Rattle.pic_laws.proofs.laws.law_of_the_least_strong_force.Goals as goal

pub returns : goal.returns
returns c = least_strong
