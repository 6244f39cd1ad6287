-- The flux that tiles have after their push, and the tiles while it is elsewhere and when it is spent.
use Rattle.std.specs.Prelude.{◌≡◌, ℕ, ℤ, ◌<◌, List, length, None, Some}
use Rattle.pic_block.specs.Block.{BlockValues, AllAtMost, edge_at}
use Rattle.pic_block.specs.Cells.{count_of}
use Rattle.pic_grid.specs.Traces.{most_flux}
use Rattle.pic_num.specs.declared.axis.Axis.{Axis}
use Rattle.pic_num.specs.Space.{Triple, unwrapped}
use Rattle.pic_tile.specs.declared.parcel.Parcel.{Parcel}
use Rattle.pic_tile.specs.Directions.{directions, here}
use Rattle.pic_tile.specs.Parcels.{IsReady, IsFresh}
use Rattle.pic_tile.specs.Tile.{TileValue, parcel_at, chain_at, flux_at, stop_at, tile_in, Replaced}
use Rattle.pic_tile.specs.Tiling.{Tiling, owner_of}
use Rattle.pic_advance.specs.Blocks.{block_in}

-- tiles in the order of their numbers
pub record AreNumbered (m : Tiling) (tiles : List TileValue) : Type 0 where
  pub count : length tiles ≡ count_of m.tiles
  pub numbers : (i : ℕ) → i < count_of m.tiles → (tile_in tiles i).number ≡ i

-- tiles that have received all parcels: the flux of each stands in that of no step
pub record HaveReceived (m : Tiling) (tiles : List TileValue) : Type 0 where
  pub numbered : AreNumbered m tiles
  pub ready : (r : ℕ) → r < count_of m.tiles → IsReady m (tile_in tiles r)
  pub quiet : (r d : ℕ) → r < count_of m.tiles → d < directions → (d ≡ here → ⊥)
      → stop_at (tile_in tiles r) d ≡ None
  pub small : (r : ℕ) → r < count_of m.tiles → AllAtMost most_flux (flux_at (tile_in tiles r) here)

-- the flux that tiles have at an edge of the grid: that of the tile of its cell
abbrev pub flux_in : Tiling → List TileValue → Axis → Triple → ℤ
flux_in m tiles a p = edge_at (flux_at (tile_in tiles (owner_of m p)) here) a (unwrapped p)

-- a tile before and after: its flux is the block b, and it has no stop
pub record IsLent (old new : TileValue) (b : BlockValues) : Type 0 where
  pub lent : (p : Parcel) → parcel_at old here ≡ Some p
      → Replaced old new here (record p { flux = b; stop = None })

-- its flux and the block b have changed places: c is the block afterwards
pub record IsSwapped (old new : TileValue) (b c : BlockValues) : Type 0 where
  pub tile : IsLent old new b
  pub block : c ≡ flux_at old here

-- so have those of all tiles and the block of the place of each
pub record AreSwapped (old new : List TileValue) (bs cs : List BlockValues) : Type 0 where
  pub long : length new ≡ length old
  pub beside : length cs ≡ length bs
  pub each : (i : ℕ) → i < length old
      → IsSwapped (tile_in old i) (tile_in new i) (block_in bs i) (block_in cs i)

-- the tiles have their particles as before, and are ready for the next push
pub record AreSpent (m : Tiling) (old new : List TileValue) : Type 0 where
  pub numbered : AreNumbered m new
  pub fresh : (r : ℕ) → r < count_of m.tiles → IsFresh m (tile_in new r)
  pub chains : (r : ℕ) → r < count_of m.tiles
      → chain_at (tile_in new r) here ≡ chain_at (tile_in old r) here
