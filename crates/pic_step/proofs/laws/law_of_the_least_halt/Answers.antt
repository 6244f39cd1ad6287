use Rattle.pic_grid.proofs.LeastHaltLaws.{least_halt}
use Rattle.pic_step.proofs.laws.law_of_the_least_halt.Goals as goal

pub returns : goal.returns
returns c = least_halt
