-- What a board leaves.
use Rattle.std.specs.Prelude.{◌≡◌, ℕ, ◌<◌, List, length}
use Rattle.pic_block.specs.Block.{AllAtMost}
use Rattle.pic_grid.specs.Traces.{most_flux}
use Rattle.pic_tile.specs.CoreState.{all_particles}
use Rattle.pic_tile.specs.Directions.{here}
use Rattle.pic_tile.specs.Exchanged.{AreExchanged}
use Rattle.pic_tile.specs.Frame.{felt_in}
use Rattle.pic_tile.specs.Tile.{TileValue, flux_at, tile_in}
use Rattle.pic_yard.specs.declared.opening.Opening.{Opening}
use Rattle.pic_yard.specs.Contents.{IsShut, tiles_in}

-- the tiles in order, into each of which all parcels that come to it are merged
pub record AreMerged (o : Opening) (tiles : List TileValue) : Type 0 where
  pub count : length tiles ≡ tiles_in o
  pub each : (r : ℕ) → r < tiles_in o → IsShut o r (tile_in tiles r)

-- they have what the push phase leaves of the particles of the opening
abbrev pub HaveExchanged : Opening → List TileValue → Type 0
HaveExchanged o tiles =
    AreExchanged (felt_in o.frame) o.frame.map (all_particles o.tiles.items) tiles

-- their flux keeps the bound of the push phase
abbrev pub KeepTheBound : Opening → List TileValue → Type 0
KeepTheBound o tiles =
    (r : ℕ) → r < tiles_in o → AllAtMost most_flux (flux_at (tile_in tiles r) here)
