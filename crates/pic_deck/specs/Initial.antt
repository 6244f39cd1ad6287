-- The fields that a deck begins with, and the test of their force values: this project's profile.
use Rattle.std.specs.Prelude.{◌≡◌, ℤ, pos, ◌+ℤ◌, ◌*◌, ◌/◌, ◌%◌, ◌^◌, ◌==◌, ◌&&◌, Bool, nat_le, unsigned_abs}
use Rattle.std.specs.Prelude.{if◌then◌else◌, List, slice_index, Option, Some, None}
use Rattle.std.specs.List.{range_with_len}
use Rattle.pic_num.specs.declared.axis.Axis.{Axis}
use Rattle.pic_num.specs.First.{first_of}
use Rattle.pic_num.specs.Limits.{most_force}
use Rattle.pic_num.specs.Multiplier.{Multiplier}
use Rattle.pic_num.specs.Rounding.{scaled}
use Rattle.pic_num.specs.Sizes.{IsAtMost}
use Rattle.pic_num.specs.Space.{Triple, Spot, along, axis_number}
use Rattle.pic_block.specs.Cells.{IsWithin, count_of, cell_of, axis_of}
use Rattle.pic_grid.specs.Sums.{sum_over}
use Rattle.pic_walk.specs.declared.row.Row.{Row}

-- the row is of the place on the axis a at the cell p
abbrev pub is_of : Axis → Triple → Row → Bool
is_of a p r =
    axis_number r.axis == axis_number a && (slice_index r.cell 0 == p.x && (slice_index r.cell 1 == p.y && slice_index r.cell 2 == p.z))

-- what a row adds there
unfoldable pub part : Axis → Triple → Row → ℤ
part a p r = if is_of a p r then r.value else pos 0

-- a uniform field with rows added: rows for one place add up
unfoldable pub set_up : Spot → List Row → Axis → Triple → ℤ
set_up u rows a p = along a u +ℤ sum_over (part a p) rows

-- a value of a uniform field: the number on its axis, one of 64 bits
pub record IsUniform (u : Spot) (a : Axis) (v : ℤ) : Type 0 where
  pub is : v ≡ along a u
  pub size : IsAtMost v (2 ^ 63)

-- a value's force value, where that is too large
unfoldable pub strong : Multiplier → ℤ → Option ℤ
strong by v = if nat_le (unsigned_abs (scaled v by)) most_force then None else Some (scaled v by)

-- that of the least place which has one, in the order of places: the axis, then z, y and x
unfoldable pub first_strong : Triple → Multiplier → (Axis → Triple → ℤ) → Option ℤ
first_strong n by g =
    first_of (λ i. strong by (g (axis_of (i / count_of n)) (cell_of n (i % count_of n)))) (range_with_len 0 (3 * count_of n))

-- no force value on n cells is too large
pub record AreWeak (n : Triple) (by : Multiplier) (g : Axis → Triple → ℤ) : Type 0 where
  pub weak : (a : Axis) (p : Triple) → IsWithin p n → IsAtMost (scaled (g a p) by) most_force

-- every value on n cells is at most 2^84 in size, and its force value not too large
pub record IsMild (n : Triple) (by : Multiplier) (g : Axis → Triple → ℤ) : Type 0 where
  pub values : (a : Axis) (p : Triple) → IsWithin p n → IsAtMost (g a p) (2 ^ 84)
  pub forces : (a : Axis) (p : Triple) → IsWithin p n → IsAtMost (scaled (g a p) by) most_force
