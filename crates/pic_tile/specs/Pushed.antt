-- The push of a tile.
use Rattle.std.specs.Prelude.{◌≡◌, ℕ, ◌<◌, List, Some, Option}
use Rattle.pic_num.specs.declared.motion.Kind.{Kind}
use Rattle.pic_num.specs.declared.motion.Particle.{Particle}
use Rattle.pic_grid.specs.PushPhase.{Surroundings, CanShare}
use Rattle.pic_tile.specs.declared.parcel.Parcel.{Parcel}
use Rattle.pic_tile.specs.Directions.{directions}
use Rattle.pic_tile.specs.Owners.{tile_of}
use Rattle.pic_tile.specs.Parcels.{IsParcel}
use Rattle.pic_tile.specs.Tile.{TileValue, parcel_at}
use Rattle.pic_tile.specs.Tiling.{Tiling, cells_of}

-- a particle of a tile: its species is one of the kinds, it lies in the box, and there in the tile
pub record IsOfTile (m : Tiling) (kinds : List Kind) (tile : ℕ) (particle : Particle) : Type 0 where
  pub can : CanShare m.side (cells_of m) kinds particle
  pub tile_is : tile_of m particle ≡ tile

-- where a direction's parcel stands there is that of the push of a tile's particles
pub record IsSent (w : Surroundings) (m : Tiling) (particles : List Particle) (tile d : ℕ) (found : Option Parcel) : Type 0 where
  pub parcel : Parcel
  pub there : found ≡ Some parcel
  pub is : IsParcel w m particles tile d parcel

-- a tile after the push of its particles: for each direction stands the parcel of what they send
-- that way
pub record IsPushed (w : Surroundings) (m : Tiling) (particles : List Particle) (t : TileValue) : Type 0 where
  pub sent : (d : ℕ) → d < directions → IsSent w m particles t.number d (parcel_at t d)
