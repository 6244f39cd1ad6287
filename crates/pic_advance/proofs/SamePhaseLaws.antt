-- Field phases that give the same new values at every cell of the grid.
use Rattle.std.proofs.Common.{◌≡◌, ℕ, ℤ, Result, Ok, Err, sym, ap, ◌∙◌, zero-add}
use Rattle.pic_num.specs.declared.axis.Axis.{Axis}
use Rattle.pic_num.specs.Multiplier.{Multiplier}
use Rattle.pic_num.specs.Space.{Triple}
use Rattle.pic_block.specs.Cells.{IsWithin}
use Rattle.pic_grid.specs.declared.stop.Phase.{Phase}
use Rattle.pic_grid.specs.declared.stop.Stop.{Stop}
use Rattle.pic_grid.specs.Lattice.{Field, values_of}
use Rattle.pic_grid.specs.Parts.{one_part, origin}
use Rattle.pic_grid.proofs.LatticeLaws.{value_at-field_of, length-values_of, same_values}
use Rattle.pic_field.specs.FieldPhases.{cell_above, least_fault}
use Rattle.pic_field.proofs.CalmLaws.{least_fault-same}
use Rattle.pic_advance.specs.Phases.{Advances}

-- a cell counted from the lowest of the grid
pub above_origin : (p : Triple) → cell_above origin p ≡ p
above_origin p = λ i. record { x = zero-add p.x i; y = zero-add p.y i; z = zero-add p.z i }

-- functions with the same values in the grid have one list of values,
pub values_same : (n : Triple) (g h : Axis → Triple → ℤ) → ((a : Axis) (p : Triple) → IsWithin p n → g a p ≡ h a p) → values_of n g ≡ values_of n h
values_same n g h same =
    same_values n (values_of n g) (values_of n h) (length-values_of n g) (length-values_of n h)
    (λ a p w. value_at-field_of 0 n one_part g a p w ∙ same a p w ∙ sym (value_at-field_of 0 n one_part h a p w))

-- phases that give them have one stop,
pub fault_same : (phase : Phase) (by : Multiplier) (n : Triple) (g h : Axis → Triple → ℤ)
    → ((a : Axis) (p : Triple) → IsWithin p n → g a p ≡ h a p) → least_fault phase by origin n h ≡ least_fault phase by origin n g
fault_same phase by n g h same =
    least_fault-same phase by origin n h g
    (λ a p within. ap (h a) (above_origin p) ∙ sym (same a p within) ∙ ap (g a) (sym (above_origin p)))

-- and advance lattices alike
pub advances_same : (phase : Phase) (by : Multiplier) (side : ℕ) (n parts : Triple) (g h : Axis → Triple → ℤ) (r : Result Field Stop)
    → ((a : Axis) (p : Triple) → IsWithin p n → g a p ≡ h a p) → Advances phase by side n parts g r → Advances phase by side n parts h r
advances_same phase by side n parts g h (Ok f) same done =
    (done.0 ∙ (λ i. record { cells = n; side = side; parts = parts; values = values_same n g h same i }), fault_same phase by n g h same ∙ done.1)
advances_same phase by side n parts g h (Err stop) same done = fault_same phase by n g h same ∙ done
