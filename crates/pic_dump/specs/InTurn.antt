-- The frames of a dump in their turn.
use Rattle.std.specs.Prelude.{ℕ, zero, suc, ◌*◌, min, Option, Some, None}
use Rattle.pic_record.specs.Layout.{LayoutView}

-- the step after which frame k is due, from frame 0 on
abbrev pub due_step : LayoutView → ℕ → ℕ
due_step l k = min (k * l.every) l.steps

-- the step of the frame before record k, where there is one
abbrev pub step_before : LayoutView → ℕ → Option ℕ
step_before l zero = None
step_before l (suc k) = Some (due_step l k)
