-- The velocities that a push keeps: those that lead at most a cell far (this project's profile).
use Rattle.std.specs.Prelude.{◌≡◌, ℕ, ◌+◌, ◌*◌, ◌/◌, pos, ◌-ℤ◌, ◌<ℤ◌, ◌≤ℤ◌, Ok}
use Rattle.pic_num.specs.declared.axis.Axis.{Axis}
use Rattle.pic_num.specs.Limits.{velocity_unit}
use Rattle.pic_num.specs.Multiplier.{Multiplier}
use Rattle.pic_num.specs.Push.{Shift, pushed}
use Rattle.pic_num.specs.Space.{Spot, along}

-- the least speed that leads further than a cell of so many sub-cells: half a sub-cell is rounded up
abbrev pub too_fast : ℕ → ℕ
too_fast side = velocity_unit * side + velocity_unit / 2

-- on each axis a velocity leads at most a cell down, and less than half a sub-cell further up
pub record IsKeptVelocity (side : ℕ) (v : Spot) : Type 0 where
  pub least : (a : Axis) → (pos 0 -ℤ pos (too_fast side)) ≤ℤ along a v
  pub most : (a : Axis) → along a v <ℤ pos (too_fast side)

-- every push that doesn't halt leaves such a velocity
abbrev pub PushKeepsVelocities : Type 0
PushKeepsVelocities =
    (side : ℕ) (v e b : Spot) (kick turn : Multiplier) (s : Shift)
    → pushed side v e b kick turn ≡ Ok s → IsKeptVelocity side s.v
