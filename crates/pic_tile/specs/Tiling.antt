-- A grid cut into equal tiles, boxes of cells that are numbered x fastest, then y, then z.
use Rattle.std.specs.Prelude.{◌≡◌, ℕ, ◌*◌, ◌%◌, ◌≤◌, List, length}
use Rattle.pic_block.specs.Cells.{Grid, IsCells, IsSize, count_of, index_of, cell_of}
use Rattle.pic_block.specs.Block.{InZone}
use Rattle.pic_grid.specs.Hat.{HasTwo}
use Rattle.pic_num.specs.Space.{Triple, triple, unwrapped}
use Rattle.pic_grid.specs.Parts.{part_size, part_with, corner_of}
use Rattle.pic_grid.specs.Tiles.{most_tiles}
use Rattle.pic_tile.specs.Directions.{steps_of, ring_step}

-- the numbers of tiles, the layers of cells of each tile, and the side of a cell
pub record Tiling : Type 0 where
  pub tiles : Triple
  pub size : Triple
  pub side : ℕ

abbrev pub tiling_of : ℕ → List ℕ → List ℕ → Tiling
tiling_of side tiles layers = record { tiles = triple tiles; size = triple layers; side = side }

-- its numbers of cells
abbrev pub cells_of : Tiling → Triple
cells_of m = record { x = m.tiles.x * m.size.x; y = m.tiles.y * m.size.y; z = m.tiles.z * m.size.z }

-- its grid
abbrev pub grid_of_tiling : Tiling → Grid
grid_of_tiling m = record { n = cells_of m; side = m.side }

-- a grid cut into so many tiles
abbrev pub tiles_of : Grid → Triple → Tiling
tiles_of grid tiles = record { tiles = tiles; size = part_size grid.n tiles; side = grid.side }

-- what the type of a map of tiles keeps: equal tiles of a grid, within the limits
pub record IsMap (m : Tiling) : Type 0 where
  pub tiles : IsSize m.tiles
  pub layers : IsSize m.size
  pub thick : HasTwo m.size
  pub cells : IsCells (cells_of m)
  pub most : count_of m.tiles ≤ most_tiles

pub record IsTileMap (cells : Grid) (tiles layers : List ℕ) : Type 0 where
  pub map : IsMap (tiling_of cells.side tiles layers)
  pub whole : cells_of (tiling_of cells.side tiles layers) ≡ cells.n
  pub tiles_long : length tiles ≡ 3
  pub layers_long : length layers ≡ 3

-- a cell is one of a tile's
abbrev pub IsInTile : Tiling → ℕ → Triple → Type 0
IsInTile m tile cell = InZone (corner_of m.size (cell_of m.tiles tile)) m.size (unwrapped cell)

-- the tile of a cell
abbrev pub owner_of : Tiling → Triple → ℕ
owner_of m cell = index_of m.tiles (part_with m.size cell)

-- the place of a cell in its tile
abbrev pub place_in_tile : Tiling → Triple → Triple
place_in_tile m cell = record { x = cell.x % m.size.x; y = cell.y % m.size.y; z = cell.z % m.size.z }

-- the place of the tile that lies next to that at p, by these steps
abbrev pub place_beside : Triple → Triple → Triple → Triple
place_beside n steps p = record {
  x = ring_step n.x steps.x p.x;
  y = ring_step n.y steps.y p.y;
  z = ring_step n.z steps.z p.z;
}

-- the tile that lies next to a tile in a direction, where there are n on each axis
abbrev pub neighbour_of : Triple → ℕ → ℕ → ℕ
neighbour_of n tile dir = index_of n (place_beside n (steps_of dir) (cell_of n tile))
