-- Two small maps of tiles, those of the tests.
use Rattle.pic_tile.specs.Tiling.{Tiling}

-- [2, 2, 2] cells of 4096 sub-cells in one tile, its own neighbour in all directions
abbrev pub one_tile : Tiling
one_tile = record {
  tiles = record { x = 1; y = 1; z = 1 };
  size = record { x = 2; y = 2; z = 2 };
  side = 4096;
}

-- [4, 4, 4] such cells in 2 by 2 by 2 tiles
abbrev pub eight_tiles : Tiling
eight_tiles = record {
  tiles = record { x = 2; y = 2; z = 2 };
  size = record { x = 2; y = 2; z = 2 };
  side = 4096;
}
