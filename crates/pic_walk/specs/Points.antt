-- The particles of a species, one by one: their limits, and the walk of them.
use Rattle.std.specs.Prelude.{ℕ, ℤ, pos, ◌*◌, ◌<◌, List, [], ◌∷◌, length, slice_index_or, Ok}
use Rattle.toml.specs.Data.{Data}
use Rattle.pic_num.specs.declared.axis.Axis.{Axis}
use Rattle.pic_num.specs.Sizes.{IsAtMost}
use Rattle.pic_num.specs.Space.{triple, spot, along}
use Rattle.pic_block.specs.Cells.{Grid}
use Rattle.pic_grid.specs.Hat.{IsInBox}
use Rattle.pic_walk.specs.declared.point6.Point6.{Point6}
use Rattle.pic_walk.specs.Bounds.{fastest}
use Rattle.pic_walk.specs.declared.limits.Limits.{Limits}
use Rattle.pic_walk.specs.Limits.{either_way, below}
use Rattle.pic_walk.specs.Walk.{Walked, ◌>>=◌, list_by, numbers, natural_at}

-- a particle that isn't there
abbrev pub no_point : Point6
no_point = record { x = []; v = [] }

-- a particle of a deck: in the box of its grid, and not too fast on any axis
pub record IsPoint (g : Grid) (p : Point6) : Type 0 where
  pub place : IsInBox g.side g.n (triple p.x)
  pub speed : (a : Axis) → IsAtMost (along a (spot p.v)) (fastest g.side)

-- such particles
pub record ArePoints (g : Grid) (points : List Point6) : Type 0 where
  pub each : (k : ℕ) → k < length points → IsPoint g (slice_index_or points k no_point)

-- the velocities of a deck on an axis
abbrev pub speed_limits : ℕ → Limits
speed_limits side = either_way (fastest side)

-- the limits of a particle [x, y, z, vx, vy, vz] in the box of a grid
abbrev pub point_limits : Grid → List Limits
point_limits g =
    below (g.n.x * g.side) ∷ below (g.n.y * g.side) ∷ below (g.n.z * g.side) ∷ speed_limits g.side ∷ speed_limits g.side ∷ speed_limits g.side ∷ []

-- the particle of six numbers
abbrev pub point_of : List ℤ → Point6
point_of zs = record {
  x = natural_at zs 0 ∷ natural_at zs 1 ∷ natural_at zs 2 ∷ [];
  v = slice_index_or zs 3 (pos 0) ∷ slice_index_or zs 4 (pos 0) ∷ slice_index_or zs 5 (pos 0) ∷ [];
}

-- the next particle
unfoldable pub point : Grid → List Point6 → List ℕ → Data → Walked Point6
point g done path d = numbers (point_limits g) path d >>= (λ zs. Ok (point_of zs))

-- the particles of a species
unfoldable pub point_list : Grid → List ℕ → Data → Walked (List Point6)
point_list g path d = list_by (point g) path d
