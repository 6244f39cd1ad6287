-- How far the flux of a push reaches: of all edges of the unbounded lattice that wrap to one edge of
-- the periodic grid, three images on each axis are all that it can pass.
use Rattle.std.specs.Prelude.{◌≡◌, ℕ, ◌<◌, ◌≤◌, ℤ, pos, ◌+ℤ◌, ◌-ℤ◌, ◌⊎◌, List, All}
use Rattle.pic_num.specs.declared.motion.Particle.{Particle}
use Rattle.pic_num.specs.declared.axis.Axis.{Axis}
use Rattle.pic_num.specs.Rounding.{IsResidue}
use Rattle.pic_num.specs.Space.{Spot}
use Rattle.pic_grid.specs.PushPhase.{Surroundings}
use Rattle.pic_grid.specs.PushPhase.{CanShare}
use Rattle.pic_grid.specs.Traces.{traces, IsBeyond}

-- an index that wraps to i is i itself, an image one box under or over it, or beyond
abbrev pub IsImage : ℕ → ℕ → ℤ → Type 0
IsImage n i j = (j ≡ pos i -ℤ pos n) ⊎ ((j ≡ pos i) ⊎ ((j ≡ pos i +ℤ pos n) ⊎ IsBeyond n j))

-- a push has no flux at the edges that are beyond on an axis
pub record StaysNear (w : Surroundings) (particles : List Particle) : Type 0 where
  pub x : (a : Axis) (c : Spot) → IsBeyond w.cells.x c.x → traces w particles a c ≡ pos 0
  pub y : (a : Axis) (c : Spot) → IsBeyond w.cells.y c.y → traces w particles a c ≡ pos 0
  pub z : (a : Axis) (c : Spot) → IsBeyond w.cells.z c.z → traces w particles a c ≡ pos 0

pub record ThreeImagesAreAll : Type 0 where
  pub images : (n i : ℕ) (j : ℤ) → 2 ≤ n → IsResidue j n i → IsImage n i j
  pub reach : (w : Surroundings) (particles : List Particle)
      → 0 < w.side → All (CanShare w.side w.cells w.kinds) particles → StaysNear w particles
