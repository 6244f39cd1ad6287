-- Rows of a phase: the values of one component along a line of cells in x. They are those of any g
-- by axis and cell that has their size, as a field's scaled values.
use Rattle.std.specs.Prelude.{◌≡◌, ℕ, ℤ, pos, ◌+◌, ◌%◌, ◌^◌, ◌<◌, ◌≤◌, ◌+ℤ◌, ◌-ℤ◌, List, length, slice_index_or}
use Rattle.pic_num.specs.declared.axis.Axis.{Axis}
use Rattle.pic_num.specs.Limits.{most_scaled}
use Rattle.pic_num.specs.Multiplier.{Multiplier}
use Rattle.pic_num.specs.Rounding.{scaled}
use Rattle.pic_num.specs.Sizes.{IsAtMost}
use Rattle.pic_num.specs.Space.{Triple}
use Rattle.pic_grid.specs.Lattice.{Field, value_at}
use Rattle.pic_grid.specs.Slot.{IsSlotY, IsSlotZ}
use Rattle.pic_field.specs.declared.row.CurlRows.{CurlRows}
use Rattle.pic_field.specs.declared.row.Scaled.{Scaled}
use Rattle.pic_field.specs.declared.row.Start.{Start}

-- the greatest size of a value of a row: a scaled one, and room to add a number below 2^64
abbrev pub most_row : ℕ
most_row = most_scaled + 2 ^ 64

-- a field's values by axis and cell, each scaled once
abbrev pub scaled_of : Field → Multiplier → Axis → Triple → ℤ
scaled_of f by a p = scaled (value_at f a p) by

-- as a field is read
abbrev pub read_by : Scaled → Axis → Triple → ℤ
read_by from = scaled_of from.field.now from.by

-- the value at an index of a row
abbrev pub row_at : List ℤ → ℕ → ℤ
row_at row i = slice_index_or row i (pos 0)

-- the first count values of a row are at most most in size
pub record IsSmallRow (most count : ℕ) (row : List ℤ) : Type 0 where
  pub at_most : (i : ℕ) → i < count → IsAtMost (row_at row i) most

-- a row of count values that are at most most in size
pub record IsValueRow (most count : ℕ) (row : List ℤ) : Type 0 where
  pub length_is : length row ≡ count
  pub small : IsSmallRow most count row

-- the cell where a row begins
abbrev pub start_cell : Start → Triple
start_cell s = record { x = s.x; y = s.y.index; z = s.z.index }

-- it is one of a field's, and the slots are those of its y and z
pub record IsStart (f : Field) (s : Start) : Type 0 where
  pub x : s.x < f.cells.x
  pub y : IsSlotY f.cells f.parts s.y
  pub z : IsSlotZ f.cells f.parts s.z

-- the cell i further in x than p on a periodic grid
abbrev pub along_x : Triple → Triple → ℕ → Triple
along_x n p i = record p { x = (p.x + i) % n.x }

-- the values of a row at the indices from first on and below past are those of g on an axis. The
-- value at the index 0 would be that of the cell p, and each next one is that of the next cell in
-- x, round a grid of n cells.
pub record IsScaledRow (n : Triple) (g : Axis → Triple → ℤ) (a : Axis) (p : Triple)
    (first past : ℕ) (row : List ℤ) : Type 0 where
  pub values : (i : ℕ) → first ≤ i → i < past → row_at row i ≡ g a (along_x n p i)
  pub small : (i : ℕ) → first ≤ i → i < past → IsAtMost (row_at row i) most_row

-- a curl from the values of four rows
abbrev pub curl_of : ℤ → ℤ → ℤ → ℤ → ℤ
curl_of far_third near_third far_second near_second =
    far_third -ℤ near_third -ℤ far_second +ℤ near_second

-- from those at an index of them
abbrev pub curl_at : CurlRows → ℕ → ℤ
curl_at four i =
    curl_of (row_at four.far_third.now i) (row_at four.near_third.now i)
    (row_at four.far_second.now i) (row_at four.near_second.now i)

-- they are rows of count values
pub record AreCurlRows (count : ℕ) (four : CurlRows) : Type 0 where
  pub far_third : IsValueRow most_row count four.far_third.now
  pub near_third : IsValueRow most_row count four.near_third.now
  pub far_second : IsValueRow most_row count four.far_second.now
  pub near_second : IsValueRow most_row count four.near_second.now
