use Rattle.pic_laws.proofs.ParticleLaws as particles
use Rattle.pic_laws.proofs.laws.particles_are_those_of_their_species.Goals as goal

pub returns : goal.returns
returns c = particles.particles_are_those_of_their_species
