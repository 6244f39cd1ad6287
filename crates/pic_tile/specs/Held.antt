-- What all tiles of a map have together.
use Rattle.std.specs.Prelude.{◌<◌, List, length, map, IsPermutation}
use Rattle.std.specs.List.{All, range_with_len}
use Rattle.pic_num.specs.declared.motion.Particle.{Particle}
use Rattle.pic_num.specs.Space.{triple}
use Rattle.pic_grid.specs.Hat.{IsInBox, HasTwo}
use Rattle.pic_tile.specs.InOrder.{IsCensus}
use Rattle.pic_tile.specs.Same.{Same}
use Rattle.pic_tile.specs.Totals.{together}
use Rattle.pic_tile.specs.Directions.{here}
use Rattle.pic_tile.specs.Parcels.{AreFreshTiles}
use Rattle.pic_tile.specs.Tile.{TileValue, chain_at}
use Rattle.pic_tile.specs.Tiling.{Tiling, cells_of}

-- the chains of no step, tile after tile
abbrev pub chains_of : List TileValue → List (List Particle)
chains_of tiles = map (λ t. chain_at t here) tiles

-- these tiles have the particles of a list, each once: and where the census holds of the list, their
-- identities are a rearrangement of 0, 1, .., n - 1
pub record HoldTheList (particles : List Particle) (tiles : List TileValue) : Type 0 where
  pub same : Same (together (chains_of tiles)) particles
  pub census : IsCensus particles
      → IsPermutation (range_with_len 0 (length particles)) (map (λ x. x.id) (together (chains_of tiles)))

-- so have the fresh tiles into which a list is cut
abbrev pub FreshTilesHoldTheList : Type 0
FreshTilesHoldTheList =
    (m : Tiling) (particles : List Particle) (tiles : List TileValue)
    → 0 < m.side
    → HasTwo m.size
    → All (λ x. IsInBox m.side (cells_of m) (triple x.x)) particles
    → AreFreshTiles m particles tiles
    → HoldTheList particles tiles
