use Rattle.pic_step.proofs.VelocityLaws.{keeps_velocities}
use Rattle.pic_step.proofs.laws.law_of_velocities.Goals as goal

pub returns : goal.returns
returns c = keeps_velocities
