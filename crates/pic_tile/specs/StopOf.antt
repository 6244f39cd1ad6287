-- What stops the push phase, for particles in any order.
use Rattle.std.specs.Prelude.{◌≡◌, ℕ, List, nat_lt, if◌then◌else◌, Option, Some, None, IsOk}
use Rattle.std.specs.List.{All}
use Rattle.pic_num.specs.declared.motion.Particle.{Particle}
use Rattle.pic_grid.specs.declared.stop.Stop.{Stop}
use Rattle.pic_grid.specs.declared.stop.Stop.TheVariants.{Push, Field}
use Rattle.pic_grid.specs.PushPhase.{Surroundings, push_of, push_stop}
use Rattle.pic_grid.specs.LeastHalt.{IsLeastHalt}
use Rattle.pic_tile.specs.Same.{Same}
use Rattle.pic_tile.specs.InOrder.{AreOrdered}

-- what stops the push of particles in any order: nothing where none halts, else the least identity
-- that halts
pub record IsStopOf (w : Surroundings) (particles : List Particle) (stop : Option Stop) : Type 0 where
  pub none : stop ≡ None → All (λ x. IsOk (push_of w x)) particles
  pub some : (s : Stop) → stop ≡ Some s → IsLeastHalt w particles s

-- the identity that a stop of a push names
unfoldable pub identity_of : Stop → ℕ
identity_of (Push id what axis value) = id
identity_of (Field phase bound axis cell value) = 0

-- of two stops that of the lesser identity
unfoldable pub lesser : Option Stop → Option Stop → Option Stop
lesser None b = b
lesser (Some a) None = Some a
lesser (Some a) (Some b) = if nat_lt (identity_of b) (identity_of a) then Some b else Some a

-- the stop of a list in the order of identities is found from its particles in any order
abbrev pub LeastStopInAnyOrder : Type 0
LeastStopInAnyOrder =
    (w : Surroundings) (some list : List Particle) (stop : Option Stop)
    → Same some list → AreOrdered list → IsStopOf w some stop → stop ≡ push_stop w list
