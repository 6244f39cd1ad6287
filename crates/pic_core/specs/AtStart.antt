-- A push of all tiles before the first event.
use Rattle.std.specs.Prelude.{◌≡◌, ℕ, ◌<◌, List, length, false, replicate, None, ◌*◌}
use Rattle.pic_block.specs.Cells.{count_of}
use Rattle.pic_tile.specs.CoreState.{CoreState, tile_count}
use Rattle.pic_tile.specs.Directions.{directions}
use Rattle.pic_tile.specs.Frame.{FrameValue}
use Rattle.pic_tile.specs.Tile.{TileValue, parcel_at, tile_in}
use Rattle.pic_tile.specs.Tiling.{Tiling}
use Rattle.pic_core.specs.declared.scratch.Scratch.{Scratch}

-- so many tiles, numbered in order, with no parcel
pub record AreBare (count : ℕ) (tiles : List TileValue) : Type 0 where
  pub long : length tiles ≡ count
  pub numbers : (r : ℕ) → r < count → (tile_in tiles r).number ≡ r
  pub none : (r d : ℕ) → r < count → d < directions → parcel_at (tile_in tiles r) d ≡ None

-- nothing is claimed, posted, merged or shut
pub record HasNotBegun (s : CoreState) : Type 0 where
  pub claimed : s.claimed ≡ replicate (tile_count s) false
  pub posted : s.posted ≡ replicate (tile_count s * directions) false
  pub merged : s.merged ≡ replicate (tile_count s * directions) false
  pub shut : s.shut ≡ replicate (tile_count s) false

-- and all particles are in the tiles
pub record IsAtStart (f : FrameValue) (tiles : List TileValue) (s : CoreState) : Type 0 where
  pub frame : s.frame ≡ f
  pub opening : s.opening ≡ tiles
  pub tiles_are : s.tiles ≡ tiles
  pub mail : s.mail ≡ replicate (tile_count s * directions) None
  pub received : AreBare (tile_count s) s.received
  pub marks : HasNotBegun s

-- Scratch memory for a push of all tiles of a map: a bare tile for each, places for parcels, all of
-- them empty, and no mark is set.
pub record IsScratch (m : Tiling) (scratch : Scratch) : Type 0 where
  pub bare : AreBare (count_of m.tiles) scratch.bare.items
  pub mail : scratch.mail.items ≡ replicate (count_of m.tiles * directions) None
  pub claimed : scratch.claimed.items ≡ replicate (count_of m.tiles) false
  pub posted : scratch.posted.items ≡ replicate (count_of m.tiles * directions) false
  pub merged : scratch.merged.items ≡ replicate (count_of m.tiles * directions) false
  pub shut : scratch.shut.items ≡ replicate (count_of m.tiles) false
