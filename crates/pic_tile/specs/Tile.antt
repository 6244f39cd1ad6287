-- A tile: its number, and a parcel for each direction, or none yet. A parcel has the particles and
-- the flux that go that way, and what stops the push.
use Rattle.std.specs.Prelude.{◌≡◌, ℕ, List, [], length, Option, Some, None, slice_index_or, slice_set}
use Rattle.pic_num.specs.declared.motion.Particle.{Particle}
use Rattle.pic_block.specs.Block.{BlockValues, no_block}
use Rattle.pic_grid.specs.declared.stop.Stop.{Stop}
use Rattle.pic_tile.specs.declared.parcel.Parcel.{Parcel}
use Rattle.pic_tile.specs.Directions.{directions}

pub record TileValue : Type 0 where
  pub number : ℕ
  pub parcels : List (Option Parcel)

-- what the type of a tile keeps: each parcel stands at the number of its direction
pub record AreParcels (parcels : List (Option Parcel)) : Type 0 where
  pub long : length parcels ≡ directions
  pub dirs : (d : ℕ) (parcel : Parcel) → slice_index_or parcels d None ≡ Some parcel → parcel.dir ≡ d

-- a tile's parcel of a direction, where there is one
abbrev pub parcel_at : TileValue → ℕ → Option Parcel
parcel_at t d = slice_index_or t.parcels d None

-- the tile with that parcel put there, or taken away
abbrev pub with_parcel : TileValue → ℕ → Option Parcel → TileValue
with_parcel t d p = record t { parcels = slice_set t.parcels d p }

-- the tile whose parcel p of a direction has that flux
abbrev pub with_flux : TileValue → ℕ → Parcel → BlockValues → TileValue
with_flux t d p flux = with_parcel t d (Some (record p { flux = flux }))

-- what a parcel has, or where there is none no particles, no block and no stop
abbrev pub chain_of : Option Parcel → List Particle
chain_of None = []
chain_of (Some parcel) = parcel.chain

abbrev pub flux_of : Option Parcel → BlockValues
flux_of None = no_block
flux_of (Some parcel) = parcel.flux

abbrev pub stop_of_parcel : Option Parcel → Option Stop
stop_of_parcel None = None
stop_of_parcel (Some parcel) = parcel.stop

-- what a tile has for a direction
abbrev pub chain_at : TileValue → ℕ → List Particle
chain_at t d = chain_of (parcel_at t d)

abbrev pub flux_at : TileValue → ℕ → BlockValues
flux_at t d = flux_of (parcel_at t d)

abbrev pub stop_at : TileValue → ℕ → Option Stop
stop_at t d = stop_of_parcel (parcel_at t d)

-- a tile that isn't there, and the tile of a number in a list of them
abbrev pub no_tile : TileValue
no_tile = record { number = 0; parcels = [] }

abbrev pub tile_in : List TileValue → ℕ → TileValue
tile_in tiles number = slice_index_or tiles number no_tile

-- a tile before and after one parcel of it is changed: that of the direction d is now p
pub record Replaced (old new : TileValue) (d : ℕ) (p : Parcel) : Type 0 where
  pub there : parcel_at new d ≡ Some p
  pub others : (e : ℕ) → (e ≡ d → ⊥) → parcel_at new e ≡ parcel_at old e
  pub number : new.number ≡ old.number
