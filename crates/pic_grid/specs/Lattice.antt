use Rattle.std.specs.Prelude.{◌≡◌, ℤ, pos, ℕ, ◌*◌, ◌/◌, ◌%◌, ◌≤◌, List, map, slice_index_or, slice_set}
use Rattle.std.specs.List.{range_with_len}
use Rattle.pic_num.specs.declared.axis.Axis.{Axis}
use Rattle.pic_num.specs.Sizes.{IsAtMost}
use Rattle.pic_num.specs.Space.{Triple}
use Rattle.pic_block.specs.Block.{overwritten}
use Rattle.pic_block.specs.Cells.{Grid, IsWithin, count_of, index_of, cell_of, axis_of, place_of}

-- a lattice: its numbers of cells, the side of a cell, its numbers of parts, and its 3N values in the
-- order of places
pub record Field : Type 0 where
  pub cells : Triple
  pub side : ℕ
  pub parts : Triple
  pub values : List ℤ

-- its grid
abbrev pub grid_of : Field → Grid
grid_of f = record { n = f.cells; side = f.side }

-- each axis has at least one part, and its parts have equally many cells
pub record IsParts (n parts : Triple) : Type 0 where
  pub x_least : 1 ≤ parts.x
  pub x_whole : n.x % parts.x ≡ 0
  pub y_least : 1 ≤ parts.y
  pub y_whole : n.y % parts.y ≡ 0
  pub z_least : 1 ≤ parts.z
  pub z_whole : n.z % parts.z ≡ 0

-- the component on an axis at a cell
abbrev pub value_at : Field → Axis → Triple → ℤ
value_at f a p = slice_index_or f.values (place_of f.cells a p) (pos 0)

-- every value of a lattice is at most most in size
pub record EachAtMost (most : ℕ) (f : Field) : Type 0 where
  pub at_most : (a : Axis) (p : Triple) → IsWithin p f.cells → IsAtMost (value_at f a p) most

-- the lattice with that component changed
abbrev pub with_value : Field → Axis → Triple → ℤ → Field
with_value f a p v = record f { values = slice_set f.values (place_of f.cells a p) v }

-- the lattice with the components from the number first on changed, in the order of places
abbrev pub with_places : Field → ℕ → List ℤ → Field
with_places f first vs = record f { values = overwritten first vs f.values }

-- the components that g gives, in the order of places
unfoldable pub values_of : Triple → (Axis → Triple → ℤ) → List ℤ
values_of n g = map (λ i. g (axis_of (i / count_of n)) (cell_of n (i % count_of n))) (range_with_len 0 (3 * count_of n))

-- the lattice of those components
abbrev pub field_of : ℕ → Triple → Triple → (Axis → Triple → ℤ) → Field
field_of side n parts g = record { cells = n; side = side; parts = parts; values = values_of n g }

-- one number per node: the numbers of cells, and the values in the order of nodes, x fastest
pub record NodeValues : Type 0 where
  pub cells : Triple
  pub values : List ℤ

-- the value of a node
abbrev pub node_at : NodeValues → Triple → ℤ
node_at f p = slice_index_or f.values (index_of f.cells p) (pos 0)

-- the nodes with that value changed
abbrev pub with_node : NodeValues → Triple → ℤ → NodeValues
with_node f p v = record f { values = slice_set f.values (index_of f.cells p) v }
