-- The particles of a push, those of the tests.
use Rattle.std.specs.Prelude.{◌≡◌, ℕ, List, [], ◌∷◌, length, map}
use Rattle.std.specs.List.{All, range_with_len}
use Rattle.pic_num.specs.declared.motion.Particle.{Particle}
use Rattle.pic_num.specs.Space.{Triple}
use Rattle.pic_grid.specs.PushPhase.{CanShare, no_kind}

-- four cells on each axis
abbrev pub four : Triple
four = record { x = 4; y = 4; z = 4 }

-- so many particles of two species in four cells on each axis, in the order of their identities
pub record AreFirst (count : ℕ) (particles : List Particle) : Type 0 where
  pub long : length particles ≡ count
  pub identities : map (λ x. x.id) particles ≡ range_with_len 0 count
  pub can : All (CanShare 4096 four (no_kind ∷ no_kind ∷ [])) particles
