-- A particle as a dump lists it.
use Rattle.std.proofs.Common.{◌≡◌, ℕ, List, length}
use Rattle.pic_num.specs.declared.motion.Particle.{Particle}
use Rattle.pic_record.specs.Layout.{species_of}

-- a particle of a dump: three numbers of its position and of its velocity, and the species of its identity
pub record IsListed (counts : List ℕ) (particle : Particle) : Type 0 where
  pub axes : length particle.x ≡ 3
  pub speeds : length particle.v ≡ 3
  pub species : particle.species ≡ species_of counts particle.id
