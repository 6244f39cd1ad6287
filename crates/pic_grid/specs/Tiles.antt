-- Tiles that a grid can be cut into: equal boxes of two cells or more on each axis.
use Rattle.std.specs.Prelude.{◌≡◌, ℕ, ◌/◌, ◌%◌, ◌≤◌}
use Rattle.pic_num.specs.Space.{Triple}
use Rattle.pic_block.specs.Cells.{count_of}

-- a grid has at most so many tiles: this project's profile
abbrev pub most_tiles : ℕ
most_tiles = 512

-- an axis of n cells is cut into t tiles of one size, each of two cells or more
pub record IsTiled (n t : ℕ) : Type 0 where
  pub low : 1 ≤ t
  pub high : t ≤ n / 2
  pub divides : n % t ≡ 0

-- a grid of n cells is cut into tiles, not too many
pub record AreTiles (n tiles : Triple) : Type 0 where
  pub x : IsTiled n.x tiles.x
  pub y : IsTiled n.y tiles.y
  pub z : IsTiled n.z tiles.z
  pub most : count_of tiles ≤ most_tiles
