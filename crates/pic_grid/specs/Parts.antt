-- A lattice cut into equal parts, one block for each, x fastest.
use Rattle.std.specs.Prelude.{◌≡◌, ℕ, ℤ, pos, ◌+◌, ◌*◌, ◌/◌, ◌^◌, ◌<◌, ◌≤◌, List, length, slice_index_or}
use Rattle.pic_num.specs.declared.axis.Axis.{Axis}
use Rattle.pic_num.specs.Sizes.{IsAtMost}
use Rattle.pic_num.specs.Space.{Triple, Spot, unwrapped, axis_number}
use Rattle.pic_block.specs.Cells.{Grid, IsCells, count_of, index_of, cell_of}
use Rattle.pic_block.specs.Block.{BlockValues, edge_at, no_block}
use Rattle.pic_block.specs.Weak.{most_weak}
use Rattle.pic_grid.specs.Lattice.{Field, IsParts, value_at, field_of}

-- one part on each axis, and the lowest cell of the grid
abbrev pub one_part : Triple
one_part = record { x = 1; y = 1; z = 1 }

abbrev pub origin : Triple
origin = record { x = 0; y = 0; z = 0 }

-- a part for each layer of z
abbrev pub layered : Triple → Triple
layered n = record { x = 1; y = 1; z = n.z }

-- the layers of each part of n cells
abbrev pub part_size : Triple → Triple → Triple
part_size n parts = record { x = n.x / parts.x; y = n.y / parts.y; z = n.z / parts.z }

-- the part, of s layers, in which a cell lies
abbrev pub part_with : Triple → Triple → Triple
part_with s p = record { x = p.x / s.x; y = p.y / s.y; z = p.z / s.z }

-- the lowest cell of a part
abbrev pub corner_of : Triple → Triple → Spot
corner_of s part = record { x = pos (part.x * s.x); y = pos (part.y * s.y); z = pos (part.z * s.z) }

-- the block's zone is a part of s layers
pub record IsPart (s part : Triple) (b : BlockValues) : Type 0 where
  pub low : b.low ≡ corner_of s part
  pub size : b.size ≡ s

-- there is one block per part of n cells, and their zones are the parts', in order
pub record ArePartsOf (n parts : Triple) (blocks : List BlockValues) : Type 0 where
  pub count : length blocks ≡ count_of parts
  pub zones : (i : ℕ) → i < count_of parts → IsPart (part_size n parts) (cell_of parts i) (slice_index_or blocks i no_block)

-- what an index is multiplied by for 2^15 times its part, of so many layers: 2^15 over them, a little
-- more than that
pub record IsFactor (layers factor : ℕ) : Type 0 where
  pub least : 2 ^ 15 ≤ factor * layers
  pub most : factor * layers ≤ 2 ^ 15 + layers

pub record AreFactors (s factors : Triple) : Type 0 where
  pub x : IsFactor s.x factors.x
  pub y : IsFactor s.y factors.y
  pub z : IsFactor s.z factors.z

-- the cells of a lattice, its parts of s layers, and its blocks fit together
pub record IsLattice (n parts s : Triple) (blocks : List BlockValues) : Type 0 where
  pub cells : IsCells n
  pub parts_fit : IsParts n parts
  pub layers : s ≡ part_size n parts
  pub zones : ArePartsOf n parts blocks

-- what the type of a lattice keeps: they do, and the factors are those of the layers
pub record IsDivided (n parts s by : Triple) (blocks : List BlockValues) : Type 0 where
  pub lattice : IsLattice n parts s blocks
  pub factors : AreFactors s by

-- a cell's component is that of the block of its part
unfoldable pub value_in : Triple → Triple → List BlockValues → Axis → Triple → ℤ
value_in n parts blocks a p =
    edge_at (slice_index_or blocks (index_of parts (part_with (part_size n parts) p)) no_block) a (unwrapped p)

-- the lattice of the blocks
abbrev pub joined : Grid → Triple → List BlockValues → Field
joined grid parts blocks = field_of grid.side grid.n parts (value_in grid.n parts blocks)

-- the components of a lattice in a layer of z: x fastest, then y and the axis
pub record IsLayer (f : Field) (z : ℕ) (values : List ℤ) : Type 0 where
  pub long : length values ≡ 3 * (f.cells.x * f.cells.y)
  pub at : (a : Axis) (x y : ℕ) → x < f.cells.x → y < f.cells.y
      → slice_index_or values (axis_number a * (f.cells.x * f.cells.y) + y * f.cells.x + x) (pos 0)
      ≡ value_at f a (record { x = x; y = y; z = z })

-- and those are weak
pub record IsWeakLayer (f : Field) (z : ℕ) : Type 0 where
  pub at : (a : Axis) (x y : ℕ) → x < f.cells.x → y < f.cells.y
      → IsAtMost (value_at f a (record { x = x; y = y; z = z })) most_weak
