-- Particles shared out over owners, as over tiles.
use Rattle.std.specs.Prelude.{ℕ, ◌<◌, List, [], length, nat_eq, slice_index_or}
use Rattle.std.specs.List.{All, filter}
use Rattle.pic_num.specs.declared.motion.Particle.{Particle}
use Rattle.pic_tile.specs.Same.{Same}

-- the particles of one owner
unfoldable pub owned : (Particle → ℕ) → ℕ → List Particle → List Particle
owned own t particles = filter (λ x. nat_eq (own x) t) particles

-- chains stand for a list of particles: chain t has those that t owns, in any order
pub record StandFor (own : Particle → ℕ) (chains : List (List Particle)) (particles : List Particle) : Type 0 where
  pub owners : All (λ x. own x < length chains) particles
  pub each : (t : ℕ) → t < length chains → Same (slice_index_or chains t []) (owned own t particles)
