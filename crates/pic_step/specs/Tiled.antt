-- The tiles in which the particles of a state are kept.
use Rattle.std.specs.Prelude.{◌≡◌, List, IsPermutation}
use Rattle.pic_tile.specs.Totals.{together}
use Rattle.pic_tile.specs.Held.{chains_of}
use Rattle.pic_tile.specs.Parcels.{AreFreshTiles}
use Rattle.pic_tile.specs.Tile.{TileValue}
use Rattle.pic_tile.specs.Tiling.{Tiling, cells_of}
use Rattle.pic_step.specs.SerialStep.{World}

-- all tiles of a map of the state's cells: each has the particles whose cells are its own, and all
-- together have each particle once
pub record AreTilesOf (w : World) (m : Tiling) (tiles : List TileValue) : Type 0 where
  pub side : m.side ≡ w.side
  pub cells : cells_of m ≡ w.cells
  pub own : AreFreshTiles m w.particles tiles
  pub once : IsPermutation w.particles (together (chains_of tiles))
