-- Where a piece of a path lies in its tile: on each axis its cell is in the tile's last layer, or
-- before. So its flux passes edges of the tile's own layers, and of those over them on the axes on
-- which it is in the last.
use Rattle.std.specs.Prelude.{◌≡◌, ℕ, zero, suc, ℤ, pos, ◌<◌, ◌≤◌, ◌≤ℤ◌, ◌<ℤ◌, ◌+ℤ◌, ◌==◌, false, not, ◌||◌, Option, Some, None, IfSome}
use Rattle.pic_num.specs.declared.axis.Axis.{Axis}
use Rattle.pic_num.specs.declared.axis.Axis.TheVariants.{X, Y, Z}
use Rattle.pic_num.specs.Space.{Triple, Spot, next_axis}
use Rattle.pic_block.specs.Block.{BlockValues, AllAtMost}
use Rattle.pic_flux.specs.declared.cell_flux.CellFlux.{CellFlux}
use Rattle.pic_flux.specs.declared.edges.Layers.{Layers}
use Rattle.pic_flux.specs.CellFlux.{edge_flux, flux_cell, IsModest, AreLayers, most_before_flux}
use Rattle.pic_tile.specs.declared.parcel.Parcel.{Parcel}
use Rattle.pic_tile.specs.Directions.{directions, here, steps_of}
use Rattle.pic_tile.specs.Leaving.{direction_by}
use Rattle.pic_tile.specs.Tile.{TileValue, parcel_at}
use Rattle.pic_push.specs.declared.region.Region.{Region}
use Rattle.pic_push.specs.declared.region.Region.TheVariants.{Inside, FaceX, FaceY, FaceZ, EdgeX, EdgeY, EdgeZ, Elsewhere}
use Rattle.pic_push.specs.declared.reach.Reach.{Reach}
use Rattle.pic_push.specs.Gains.{IsClear}
use Rattle.pic_push.specs.Reach.{reaches, IsReachOf}
use Rattle.pic_push.specs.Sends.{HasParcelsWithin, most_sent}

-- the direction of a step up on an axis, and of steps up on both others
abbrev pub up_on : Axis → ℕ
up_on X = direction_by 2 1 1
up_on Y = direction_by 1 2 1
up_on Z = direction_by 1 1 2

abbrev pub up_beside : Axis → ℕ
up_beside X = direction_by 1 2 2
up_beside Y = direction_by 2 1 2
up_beside Z = direction_by 2 2 1

-- a direction of a step up on one axis alone
pub record IsUp (dir : ℕ) : Type 0 where
  pub axis : Axis
  pub is : dir ≡ up_on axis

-- two of these on different axes, and the direction of both steps at once
pub record AreUps (second third far : ℕ) : Type 0 where
  pub axis : Axis
  pub second_is : second ≡ up_on (next_axis axis)
  pub third_is : third ≡ up_on (next_axis (next_axis axis))
  pub far_is : far ≡ up_beside axis

-- on one axis a tile has n layers from low on: a cell and the next one up are among them
pub record IsInner (low : ℤ) (n : ℕ) (cell : ℤ) : Type 0 where
  pub least : low ≤ℤ cell
  pub most : (cell +ℤ pos 1) <ℤ (low +ℤ pos n)

-- a cell is in the last of them
pub record IsLast (low : ℤ) (n : ℕ) (cell : ℤ) : Type 0 where
  pub least : low ≤ℤ cell
  pub below : cell <ℤ (low +ℤ pos n)
  pub end : (low +ℤ pos n) ≤ℤ (cell +ℤ pos 1)

-- a level of 0 says that a cell is before the last of them, one of 1 that it is in the last
pub record IsLevel (low : ℤ) (n : ℕ) (cell : ℤ) (level : ℕ) : Type 0 where
  pub most : level ≤ 2
  pub inner : level ≡ 0 → IsInner low n cell
  pub last : level ≡ 1 → IsLast low n cell

-- a cell is in the last of them where there is a step up, else before
abbrev pub IsLastIf : ℕ → ℤ → ℕ → ℤ → Type 0
IsLastIf zero low n cell = IsInner low n cell
IsLastIf (suc zero) low n cell = IsInner low n cell
IsLastIf (suc (suc step)) low n cell = IsLast low n cell

-- a cell is in a tile's last layer on the axes on which the direction `last` steps up, and before
-- it on the others
pub record IsLastOn (last : ℕ) (low : Spot) (n : Triple) (c : Spot) : Type 0 where
  pub x : IsLastIf (steps_of last).x low.x n.x c.x
  pub y : IsLastIf (steps_of last).y low.y n.y c.y
  pub z : IsLastIf (steps_of last).z low.z n.z c.z

-- for each region the direction that steps up on the axes on which a cell there is in the last layer
abbrev pub last_at : Region → Option ℕ
last_at Inside = Some here
last_at FaceX = Some (up_on X)
last_at FaceY = Some (up_on Y)
last_at FaceZ = Some (up_on Z)
last_at EdgeX = Some (up_beside X)
last_at EdgeY = Some (up_beside Y)
last_at EdgeZ = Some (up_beside Z)
last_at Elsewhere = None

-- a cell lies in a region of its tile; elsewhere says nothing
abbrev pub LiesIn : Region → Spot → Triple → Spot → Type 0
LiesIn region low n c = IfSome (last_at region) (λ last. IsLastOn last low n c)

-- which layers the block of the direction `up` has of a cell that is in the last layer where `last`
-- steps up: the cell's own on the axes without a step, and the next one up where there is a step or
-- the cell is before the last layer
abbrev pub layers_at : ℕ → ℕ → Layers
layers_at last up =
    let l = steps_of last in
    let e = steps_of up in
    record {
      x = not (e.x == 2);
      y = not (e.y == 2);
      z = not (e.z == 2);
      up_x = (e.x == 2) || not (l.x == 2);
      up_y = (e.y == 2) || not (l.y == 2);
      up_z = (e.z == 2) || not (l.z == 2);
    }

-- a flux can be added to the block of a direction, which has those layers
pub record CanGain (last up : ℕ) (f : CellFlux) (b : BlockValues) : Type 0 where
  pub last_few : last < directions
  pub up_few : up < directions
  pub modest : IsModest f
  pub room : AllAtMost most_before_flux b
  pub layers : AreLayers b.low b.size (flux_cell f) (layers_at last up)

-- a flux can be added to a tile's parcels, of which the own one is held apart: there is room, and
-- nothing of it passes the layers that its cell doesn't reach
pub record CanGainAll (f : CellFlux) (own : Parcel) (t : TileValue) : Type 0 where
  pub modest : IsModest f
  pub opened : HasParcelsWithin most_sent own.flux.low own.flux.size t
  pub most : AllAtMost most_sent own.flux
  pub clear :
      (r : Reach) (d : ℕ) (p : Parcel)
      → IsReachOf own.flux.low own.flux.size (flux_cell f) r
      → d < directions
      → reaches r d ≡ false
      → parcel_at t d ≡ Some p
      → IsClear (edge_flux f) p.flux
