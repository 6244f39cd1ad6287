-- Which layers of a tile a piece of a particle's path can send flux through.
use Rattle.std.specs.Prelude.{◌≡◌, ℕ, ℤ, pos, ◌≤◌, ◌≤ℤ◌, ◌<ℤ◌, ◌+ℤ◌, Bool, ◌&&◌, nat_le, unsigned_abs}
use Rattle.pic_num.specs.Space.{Triple, Spot}
use Rattle.pic_tile.specs.Directions.{steps_of}
use Rattle.pic_tile.specs.Leaving.{step_to, direction_by}
use Rattle.pic_push.specs.declared.reach.Steps.{Steps}
use Rattle.pic_push.specs.declared.reach.Direction.{Direction}
use Rattle.pic_push.specs.declared.reach.Reach.{Reach}

-- a step is one of those from the first to the last
unfoldable pub spans : Steps → ℕ → Bool
spans s step = nat_le s.first step && nat_le step s.last

-- each step of a direction is
unfoldable pub reaches : Reach → ℕ → Bool
reaches r dir =
    let e = steps_of dir in spans r.x e.x && (spans r.y e.y && spans r.z e.z)

-- the steps of a reach are steps
pub record IsReach (r : Reach) : Type 0 where
  pub x_first : r.x.first ≤ 1
  pub y_first : r.y.first ≤ 1
  pub z_first : r.z.first ≤ 1
  pub x_last : r.x.last ≤ 2
  pub y_last : r.y.last ≤ 2
  pub z_last : r.z.last ≤ 2

-- the first of its directions
abbrev pub first_direction : Reach → Direction
first_direction r = record { x = r.x.first; y = r.y.first; z = r.z.first }

-- the number of a direction
abbrev pub direction_number : Direction → ℕ
direction_number t = direction_by t.x t.y t.z

-- what a direction has on each axis is a step
pub record AreSteps (t : Direction) : Type 0 where
  pub x : t.x ≤ 2
  pub y : t.y ≤ 2
  pub z : t.z ≤ 2

-- on one axis, where a tile has n layers from low on and a piece of a path lies in a cell: it can
-- pass edges of the layer under the tile only where the cell lies there, and of the layers over it
-- only where the cell does or the next one up
pub record AreStepsOf (low : ℤ) (n : ℕ) (cell : ℤ) (s : Steps) : Type 0 where
  pub first : s.first ≤ 1
  pub last_low : 1 ≤ s.last
  pub last_high : s.last ≤ 2
  pub under : s.first ≡ 1 → low ≤ℤ cell
  pub over : s.last ≡ 1 → (cell +ℤ pos 1) <ℤ (low +ℤ pos n)

-- on all three
pub record IsReachOf (low : Spot) (size : Triple) (cell : Spot) (r : Reach) : Type 0 where
  pub x : AreStepsOf low.x size.x cell.x r.x
  pub y : AreStepsOf low.y size.y cell.y r.y
  pub z : AreStepsOf low.z size.z cell.z r.z

-- the direction from a tile of these layers to a cell, which isn't wrapped
abbrev pub direction_from : Spot → Triple → Spot → ℕ
direction_from low size cell =
    direction_by
    (step_to (unsigned_abs low.x) size.x cell.x)
    (step_to (unsigned_abs low.y) size.y cell.y)
    (step_to (unsigned_abs low.z) size.z cell.z)
