use Rattle.std.specs.Prelude.{ℤ, pos, ℕ, List, slice_index, slice_index_or}
use Rattle.pic_num.specs.declared.axis.Axis.{Axis}
use Rattle.pic_num.specs.declared.axis.Axis.TheVariants.{X, Y, Z}
use Rattle.pic_num.specs.Sizes.{IsAtMost}

-- three natural numbers by axis: a number of cells, a cell of the grid, a position in the box
pub record Triple : Type 0 where
  pub x : ℕ
  pub y : ℕ
  pub z : ℕ

-- what an array [u32; 3] stands for
abbrev pub triple : List ℕ → Triple
triple a = record { x = slice_index a 0; y = slice_index a 1; z = slice_index a 2 }

-- three whole numbers by axis: a velocity, a force, a move, a point or a cell that isn't wrapped
pub record Spot : Type 0 where
  pub x : ℤ
  pub y : ℤ
  pub z : ℤ

-- what an array of three signed numbers stands for
abbrev pub spot : List ℤ → Spot
spot a = record { x = slice_index_or a 0 (pos 0); y = slice_index_or a 1 (pos 0); z = slice_index_or a 2 (pos 0) }

-- three natural numbers as whole ones: a cell of the grid or a position in the box as one that isn't
-- wrapped
abbrev pub unwrapped : Triple → Spot
unwrapped p = record { x = pos p.x; y = pos p.y; z = pos p.z }

-- each number of a spot is at most n in size
pub record AreAtMost (p : Spot) (n : ℕ) : Type 0 where
  pub x : IsAtMost p.x n
  pub y : IsAtMost p.y n
  pub z : IsAtMost p.z n

-- the number on an axis
abbrev pub along : Axis → Spot → ℤ
along X p = p.x
along Y p = p.y
along Z p = p.z

-- the axes are numbered 0, 1, 2
abbrev pub axis_number : Axis → ℕ
axis_number X = 0
axis_number Y = 1
axis_number Z = 2

-- the axes in turn
abbrev pub next_axis : Axis → Axis
next_axis X = Y
next_axis Y = Z
next_axis Z = X
