-- The order of places of a lattice: the component's axis first, then z, then y, and x fastest. The
-- lattice is the staggered one of K. S. Yee (IEEE Trans. Antennas Propag. 14, 1966, 302), where each
-- cell owns three edges and three faces, one for each axis.
use Rattle.std.specs.Prelude.{ℕ, zero, suc, ◌+◌, ◌*◌, ◌/◌, ◌%◌, ◌<◌, ◌≤◌}
use Rattle.pic_num.specs.declared.axis.Axis.{Axis}
use Rattle.pic_num.specs.declared.axis.Axis.TheVariants.{X, Y, Z}
use Rattle.pic_num.specs.Limits.{fewest_cells_of_axis, most_cells_of_axis}
use Rattle.pic_num.specs.Space.{Triple, axis_number}

-- a grid: its numbers of cells on the axes, and how many sub-cells lie along a cell
pub record Grid : Type 0 where
  pub n : Triple
  pub side : ℕ

-- the numbers of cells of a grid on its axes
pub record IsCells (n : Triple) : Type 0 where
  pub x_least : fewest_cells_of_axis ≤ n.x
  pub x_most : n.x ≤ most_cells_of_axis
  pub y_least : fewest_cells_of_axis ≤ n.y
  pub y_most : n.y ≤ most_cells_of_axis
  pub z_least : fewest_cells_of_axis ≤ n.z
  pub z_most : n.z ≤ most_cells_of_axis

-- a part of a grid has 1 to as many layers on each axis as a grid can have cells, and a grid so many
-- parts
pub record IsSize (n : Triple) : Type 0 where
  pub x_least : 1 ≤ n.x
  pub x_most : n.x ≤ most_cells_of_axis
  pub y_least : 1 ≤ n.y
  pub y_most : n.y ≤ most_cells_of_axis
  pub z_least : 1 ≤ n.z
  pub z_most : n.z ≤ most_cells_of_axis

-- p is one of the n.x by n.y by n.z cells
pub record IsWithin (p n : Triple) : Type 0 where
  pub x : p.x < n.x
  pub y : p.y < n.y
  pub z : p.z < n.z

-- how many cells there are
abbrev pub count_of : Triple → ℕ
count_of n = n.x * n.y * n.z

-- the number of a cell, x fastest
unfoldable pub index_of : Triple → Triple → ℕ
index_of n p = (p.z * n.y + p.y) * n.x + p.x

-- the cell of a number
abbrev pub cell_of : Triple → ℕ → Triple
cell_of n i = record { x = i % n.x; y = i / n.x % n.y; z = i / n.x / n.y }

-- the axis of a number
abbrev pub axis_of : ℕ → Axis
axis_of zero = X
axis_of (suc zero) = Y
axis_of (suc (suc i)) = Z

-- the number of a place: the component on an axis at a cell
unfoldable pub place_of : Triple → Axis → Triple → ℕ
place_of n a p = axis_number a * count_of n + index_of n p
