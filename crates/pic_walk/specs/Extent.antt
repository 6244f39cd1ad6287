-- How far the box of a grid reaches.
use Rattle.std.specs.Prelude.{ℕ, ◌*◌, ◌≤◌}
use Rattle.pic_num.specs.Limits.{most_cells_of_axis, most_side}
use Rattle.pic_num.specs.Space.{Triple}
use Rattle.pic_block.specs.Cells.{Grid}

-- how many sub-cells lie along the box on each axis
abbrev pub extent_of : Grid → Triple
extent_of g = record { x = g.n.x * g.side; y = g.n.y * g.side; z = g.n.z * g.side }

-- the most that they can be
abbrev pub most_extent : ℕ
most_extent = most_cells_of_axis * most_side

-- so many can lie along a box
pub record IsExtent (l : Triple) : Type 0 where
  pub x_some : 1 ≤ l.x
  pub x_most : l.x ≤ most_extent
  pub y_some : 1 ≤ l.y
  pub y_most : l.y ≤ most_extent
  pub z_some : 1 ≤ l.z
  pub z_most : l.z ≤ most_extent
