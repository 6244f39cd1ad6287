use Rattle.std.specs.Prelude.{◌≡◌, ℕ, ℤ, pos, ◌+◌, ◌*◌, ◌≤◌, ◌≤ℤ◌, ◌<ℤ◌, ◌+ℤ◌, ◌-ℤ◌, Bool, IsTrue}
use Rattle.std.specs.Prelude.{List, [], ◌++◌, length, take, drop, replicate, slice_index_or, slice_set, unsigned_abs}
use Rattle.pic_num.specs.declared.axis.Axis.{Axis}
use Rattle.pic_num.specs.Sizes.{IsAtMost}
use Rattle.pic_num.specs.Space.{Triple, Spot}
use Rattle.pic_block.specs.Cells.{count_of, place_of}
use Rattle.pic_block.specs.Weak.{AreWeak}

-- a block: its lowest cell, its layers of cells, and its values in the order of places
pub record BlockValues : Type 0 where
  pub low : Spot
  pub size : Triple
  pub values : List ℤ

-- a block of no cells, which stands where a list of blocks has none
abbrev pub no_block : BlockValues
no_block = record { low = record { x = pos 0; y = pos 0; z = pos 0 }; size = record { x = 0; y = 0; z = 0 }; values = [] }

-- a zone's layers have these values, three for each cell, and all are 0, or weak, where they are known
-- to be
pub record IsFilled (size : Triple) (values : List ℤ) (blank weak : Bool) : Type 0 where
  pub long : length values ≡ 3 * count_of size
  pub zeros : IsTrue blank → values ≡ replicate (3 * count_of size) (pos 0)
  pub small : IsTrue weak → AreWeak values

-- the cell c, which isn't wrapped, is one of a zone's
pub record InZone (low : Spot) (size : Triple) (c : Spot) : Type 0 where
  pub x_low : low.x ≤ℤ c.x
  pub x_high : c.x <ℤ (low.x +ℤ pos size.x)
  pub y_low : low.y ≤ℤ c.y
  pub y_high : c.y <ℤ (low.y +ℤ pos size.y)
  pub z_low : low.z ≤ℤ c.z
  pub z_high : c.z <ℤ (low.z +ℤ pos size.z)

-- a zone's cell, counted from the lowest
abbrev pub inner_of : Spot → Spot → Triple
inner_of low c = record { x = unsigned_abs (c.x -ℤ low.x); y = unsigned_abs (c.y -ℤ low.y); z = unsigned_abs (c.z -ℤ low.z) }

-- the component on an axis at a cell of the zone
abbrev pub edge_at : BlockValues → Axis → Spot → ℤ
edge_at b a c = slice_index_or b.values (place_of b.size a (inner_of b.low c)) (pos 0)

-- the block with that component changed
abbrev pub with_edge : BlockValues → Axis → Spot → ℤ → BlockValues
with_edge b a c v = record b { values = slice_set b.values (place_of b.size a (inner_of b.low c)) v }

-- a list with the elements from the number first on changed to these
abbrev pub overwritten : ℕ → List ℤ → List ℤ → List ℤ
overwritten first vs xs = take first xs ++ (vs ++ drop (first + length vs) xs)

-- the component on an axis at the cell that lies p above the lowest
abbrev pub inner_at : BlockValues → Axis → Triple → ℤ
inner_at b a p = slice_index_or b.values (place_of b.size a p) (pos 0)

-- that cell, in a zone that begins at a cell of the grid
abbrev pub outer_of : Spot → Triple → Triple
outer_of low p = record { x = unsigned_abs low.x + p.x; y = unsigned_abs low.y + p.y; z = unsigned_abs low.z + p.z }

-- a zone lies among the cells of a grid
pub record IsAmongCells (low : Spot) (size n : Triple) : Type 0 where
  pub x_low : pos 0 ≤ℤ low.x
  pub x_high : unsigned_abs low.x + size.x ≤ n.x
  pub y_low : pos 0 ≤ℤ low.y
  pub y_high : unsigned_abs low.y + size.y ≤ n.y
  pub z_low : pos 0 ≤ℤ low.z
  pub z_high : unsigned_abs low.z + size.z ≤ n.z

-- two blocks of one zone
pub record IsShaped (b c : BlockValues) : Type 0 where
  pub low : b.low ≡ c.low
  pub size : b.size ≡ c.size

-- every value of a block is at most most in size
pub record AllAtMost (most : ℕ) (b : BlockValues) : Type 0 where
  pub at_most : (a : Axis) (c : Spot) → InZone b.low b.size c → IsAtMost (edge_at b a c) most
