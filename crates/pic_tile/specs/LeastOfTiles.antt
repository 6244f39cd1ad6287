-- Which stop is found of those of tiles.
use Rattle.std.specs.Prelude.{◌≡◌, ℕ, ◌<◌, ◌≤◌, List, length, Option, Some, None}
use Rattle.pic_grid.specs.declared.stop.Stop.{Stop}
use Rattle.pic_tile.specs.StopOf.{identity_of}
use Rattle.pic_tile.specs.Directions.{here}
use Rattle.pic_tile.specs.Exchanged.{least_stop}
use Rattle.pic_tile.specs.Tile.{TileValue, stop_at, tile_in}

-- a tile has this stop
abbrev pub StopsAt : List TileValue → ℕ → Stop → Type 0
StopsAt tiles r s = (r < length tiles) × (stop_at (tile_in tiles r) here ≡ Some s)

-- there is none exactly where no tile has one; else some tile has it, and none one of a lesser identity
pub record IsLeastOfTiles (tiles : List TileValue) (stop : Option Stop) : Type 0 where
  pub none : stop ≡ None → (r : ℕ) → r < length tiles → stop_at (tile_in tiles r) here ≡ None
  pub some : (s : Stop) → stop ≡ Some s → (r : ℕ) × StopsAt tiles r s
  pub least : (s t : Stop) → stop ≡ Some s → (r : ℕ) → StopsAt tiles r t → identity_of s ≤ identity_of t

-- so is what is found of any tiles
abbrev pub LeastOfTilesIsFound : Type 0
LeastOfTilesIsFound = (tiles : List TileValue) → IsLeastOfTiles tiles (least_stop tiles)
