-- The zones of tiles.
use Rattle.std.specs.Prelude.{pos, ◌≤◌, ◌≤ℤ◌, ◌+◌, unsigned_abs}
use Rattle.pic_num.specs.Limits.{most_cells_of_axis}
use Rattle.pic_num.specs.Space.{Triple, Spot}

-- layers of cells that a tile can have: two or more on each axis, of a grid's cells
pub record IsTileZone (low : Spot) (size : Triple) : Type 0 where
  pub x_low : pos 0 ≤ℤ low.x
  pub x_thick : 2 ≤ size.x
  pub x_high : unsigned_abs low.x + size.x ≤ most_cells_of_axis
  pub y_low : pos 0 ≤ℤ low.y
  pub y_thick : 2 ≤ size.y
  pub y_high : unsigned_abs low.y + size.y ≤ most_cells_of_axis
  pub z_low : pos 0 ≤ℤ low.z
  pub z_thick : 2 ≤ size.z
  pub z_high : unsigned_abs low.z + size.z ≤ most_cells_of_axis
