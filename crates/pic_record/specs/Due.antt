-- The steps after which a frame is due: this project's profile.
use Rattle.std.specs.Prelude.{ℕ, ◌+◌, ◌%◌, min, ◌==◌, ◌||◌, Bool, nat_lt, if◌then◌else◌, Option, Some, None}

-- a frame is due after every so many steps, from none on, and after the last step
abbrev pub is_due : ℕ → ℕ → ℕ → Bool
is_due steps every step = step == steps || step % every == 0

-- the step of the next frame, after the frame of such a step or at the start
abbrev pub due_after : ℕ → ℕ → Option ℕ → Option ℕ
due_after steps every None = Some 0
due_after steps every (Some last) = if nat_lt last steps then Some (min (last + every) steps) else None
