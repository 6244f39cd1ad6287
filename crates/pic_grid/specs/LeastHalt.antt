-- What stops the push phase: of all particles that halt the one with the least identity.
use Rattle.std.specs.Prelude.{◌≡◌, ◌<◌, List, length, map, None, Some, Err, IsOk, ◌↔◌}
use Rattle.std.specs.List.{All, Contains, range_with_len}
use Rattle.pic_num.specs.declared.motion.Particle.{Particle}
use Rattle.pic_num.specs.Push.{Halting}
use Rattle.pic_grid.specs.declared.stop.Stop.{Stop}
use Rattle.pic_grid.specs.declared.stop.Stop.TheVariants.{Push}
use Rattle.pic_grid.specs.PushPhase.{Surroundings, push_of, push_stop}

-- a particle of the list halts, the stop is its own, and no particle of a lesser identity halts
pub record IsLeastHalt (w : Surroundings) (particles : List Particle) (stop : Stop) : Type 0 where
  pub particle : Particle
  pub halting : Halting
  pub among : Contains particles particle
  pub halts : push_of w particle ≡ Err halting
  pub named : stop ≡ Push particle.id halting.what halting.axis halting.value
  pub least : All (λ other. other.id < particle.id → IsOk (push_of w other)) particles

-- there is no stop exactly where no particle halts, and a stop is the answer exactly where it is
-- that of the least identity that halts
pub record StopsAtTheLeast (w : Surroundings) (particles : List Particle) : Type 0 where
  pub none : (push_stop w particles ≡ None) ↔ All (λ particle. IsOk (push_of w particle)) particles
  pub some : (stop : Stop) → (push_stop w particles ≡ Some stop) ↔ IsLeastHalt w particles stop

-- so it is of all particles whose identities are 0, 1, .. in order, as those of a state are
abbrev pub LeastHalt : Type 0
LeastHalt =
    (w : Surroundings) (particles : List Particle)
    → map (λ particle. particle.id) particles ≡ range_with_len 0 (length particles)
    → StopsAtTheLeast w particles
