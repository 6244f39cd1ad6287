-- What a field phase does to a lattice.
use Rattle.std.specs.Prelude.{◌≡◌, ℕ, ℤ, Some, None, Result, Ok, Err}
use Rattle.pic_num.specs.declared.axis.Axis.{Axis}
use Rattle.pic_num.specs.Multiplier.{Multiplier}
use Rattle.pic_num.specs.Space.{Triple}
use Rattle.pic_grid.specs.declared.stop.Phase.{Phase}
use Rattle.pic_grid.specs.declared.stop.Stop.{Stop}
use Rattle.pic_grid.specs.Lattice.{Field, field_of}
use Rattle.pic_grid.specs.Parts.{origin}
use Rattle.pic_field.specs.FieldPhases.{least_fault}

-- the lattice of the new values that g gives, none of which is a stop, or the stop of the least
-- place
abbrev pub Advances : Phase → Multiplier → ℕ → Triple → Triple → (Axis → Triple → ℤ)
    → Result Field Stop → Type 0
Advances phase by side n parts g (Ok f) =
    (f ≡ field_of side n parts g) × (least_fault phase by origin n g ≡ None)
Advances phase by side n parts g (Err stop) = least_fault phase by origin n g ≡ Some stop
