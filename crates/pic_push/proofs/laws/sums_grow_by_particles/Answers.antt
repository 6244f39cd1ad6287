use Rattle.pic_push.proofs.PartialSumLaws.{sums_by_particles}
use Rattle.pic_push.proofs.laws.sums_grow_by_particles.Goals as goal

pub returns : goal.returns
returns c = sums_by_particles
