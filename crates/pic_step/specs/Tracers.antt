-- The particles that a run follows, beside the list of all.
use Rattle.std.specs.Prelude.{◌≡◌, ℕ, ◌<◌, List, length, map, slice_index_or}
use Rattle.pic_num.specs.declared.motion.Particle.{Particle}
use Rattle.pic_num.specs.NoParticle.{no_particle}

-- the identities of particles
abbrev pub identities : List Particle → List ℕ
identities particles = map (λ (x : Particle). x.id) particles

-- a particle is the one of a list that stands at the place of its identity
pub record IsOf (particles : List Particle) (x : Particle) : Type 0 where
  pub below : x.id < length particles
  pub is : slice_index_or particles x.id no_particle ≡ x
