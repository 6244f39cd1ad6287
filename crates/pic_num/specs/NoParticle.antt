-- What stands in the place of a particle that a list doesn't have.
use Rattle.std.specs.Prelude.{[]}
use Rattle.pic_num.specs.declared.motion.Particle.{Particle}

abbrev pub no_particle : Particle
no_particle = record { id = 0; species = 0; x = []; v = [] }
