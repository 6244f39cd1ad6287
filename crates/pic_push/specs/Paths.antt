-- The path of a charged particle in one step.
use Rattle.std.specs.Prelude.{◌≡◌, ℕ, ℤ, pos, ◌*◌}
use Rattle.pic_num.specs.Limits.{most_charge, most_cells_of_axis}
use Rattle.pic_num.specs.declared.axis.Axis.{Axis}
use Rattle.pic_num.specs.declared.motion.Particle.{Particle}
use Rattle.pic_num.specs.Push.{Shift, plus}
use Rattle.pic_num.specs.Sizes.{IsAtMost}
use Rattle.pic_num.specs.Space.{Triple, Spot, triple, spot, unwrapped, AreAtMost}
use Rattle.pic_block.specs.Among.{IsOneOf}
use Rattle.pic_grid.specs.Flux.{path_flux}
use Rattle.pic_grid.specs.Hat.{IsInBox}
use Rattle.pic_grid.specs.Path.{floor_cell, path}
use Rattle.pic_grid.specs.PushPhase.{Surroundings, kind_of}
use Rattle.pic_push.specs.declared.charged_path.Path.{Path}

-- as many cells on each axis as there may be
abbrev pub largest_grid : Triple
largest_grid = record { x = most_cells_of_axis; y = most_cells_of_axis; z = most_cells_of_axis }

-- it begins in the largest grid, goes at most the side of a cell far on each axis, and its charge
-- is within the limits
pub record IsPath (p : Path) : Type 0 where
  pub from : IsInBox p.sub largest_grid (triple p.from)
  pub by : AreAtMost (spot p.by) p.sub
  pub charge : IsAtMost p.charge most_charge

-- the flux that it carries through the edges
abbrev pub flux_along : Path → Axis → Spot → ℤ
flux_along p a c = path_flux p.sub p.charge (path p.sub (unwrapped (triple p.from)) (spot p.by)) a c

-- the cell of its start
abbrev pub path_start : Path → Spot
path_start p = floor_cell p.sub (unwrapped (triple p.from))

-- the cell of its end, which isn't wrapped
abbrev pub path_end : Path → Spot
path_end p = floor_cell p.sub (plus (unwrapped (triple p.from)) (spot p.by))

-- it is that of a particle's move
pub record IsPathOf (w : Surroundings) (x : Particle) (s : Shift) (p : Path) : Type 0 where
  pub sub_is : p.sub ≡ w.side
  pub from_is : triple p.from ≡ triple x.x
  pub by_is : spot p.by ≡ s.d
  pub charge_is : p.charge ≡ (kind_of w.kinds x).charge

-- a point that isn't wrapped lies in the box of a grid of n cells
pub record StaysInBox (side : ℕ) (n : Triple) (p : Spot) : Type 0 where
  pub x : IsOneOf (pos 0) (n.x * side) p.x
  pub y : IsOneOf (pos 0) (n.y * side) p.y
  pub z : IsOneOf (pos 0) (n.z * side) p.z
