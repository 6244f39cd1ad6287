-- What the stop of a box says of its values, with no walk along its places: there is none exactly
-- where no value passes a bound, and else it names the least place where one does. The order of
-- places is this project's profile: the axis first, then z, then y, then x.
use Rattle.std.specs.Prelude.{◌≡◌, ◌↔◌, ℤ, ◌<◌, unsigned_abs, Some, None}
use Rattle.pic_num.specs.declared.axis.Axis.{Axis}
use Rattle.pic_num.specs.Limits.{most_value, most_force}
use Rattle.pic_num.specs.Multiplier.{Multiplier}
use Rattle.pic_num.specs.Rounding.{scaled}
use Rattle.pic_num.specs.Sizes.{IsAtMost}
use Rattle.pic_num.specs.Space.{Triple, axis_number}
use Rattle.pic_block.specs.Cells.{IsWithin}
use Rattle.pic_grid.specs.declared.stop.Bound.{Bound}
use Rattle.pic_grid.specs.declared.stop.Bound.TheVariants.{Value, Force}
use Rattle.pic_grid.specs.declared.stop.Phase.{Phase}
use Rattle.pic_grid.specs.declared.stop.Stop.{Stop}
use Rattle.pic_grid.specs.declared.stop.Stop.TheVariants.{Field as field_stop}
use Rattle.pic_grid.specs.Arrays.{array_of_triple}
use Rattle.pic_field.specs.FieldPhases.{cell_above, least_fault, IsBounded}

-- in the box of size cells from low on no value passes a bound
pub record EachBounded (by : Multiplier) (low size : Triple) (f : Axis → Triple → ℤ) : Type 0 where
  pub bounded : (a : Axis) (p : Triple) → IsWithin p size → IsBounded by (f a (cell_above low p))

-- the bound that a value v passes, and the number that is too large: v itself where it is above
-- 2^90 in size, else its force value where that is above 2^44
pub data Passes (by : Multiplier) (v : ℤ) : Bound → ℤ → Type 0 where
  value_passes : most_value < unsigned_abs v → Passes by v Value v
  force_passes : IsAtMost v most_value → most_force < unsigned_abs (scaled v by)
      → Passes by v Force (scaled v by)

-- the component on b at the cell q comes before that on a at p: its axis is less, or else its z, or
-- else its y, or else its x
pub data IsBefore (b : Axis) (q : Triple) (a : Axis) (p : Triple) : Type 0 where
  less_axis : axis_number b < axis_number a → IsBefore b q a p
  less_z : b ≡ a → q.z < p.z → IsBefore b q a p
  less_y : b ≡ a → q.z ≡ p.z → q.y < p.y → IsBefore b q a p
  less_x : b ≡ a → q.z ≡ p.z → q.y ≡ p.y → q.x < p.x → IsBefore b q a p

-- a stop names the phase, a place of the box whose value passes a bound (its cell lies `at` above
-- low), that bound and the number that is too large; at no place of the box before it does a value
-- pass a bound
pub record IsLeastStop (phase : Phase) (by : Multiplier) (low size : Triple)
    (f : Axis → Triple → ℤ) (stop : Stop) : Type 0 where
  pub axis : Axis
  pub at : Triple
  pub bound : Bound
  pub value : ℤ
  pub names : stop ≡ field_stop phase bound axis (array_of_triple (cell_above low at)) value
  pub within : IsWithin at size
  pub passes : Passes by (f axis (cell_above low at)) bound value
  pub least : (b : Axis) (q : Triple) → IsWithin q size → IsBefore b q axis at
      → IsBounded by (f b (cell_above low q))

-- in every phase, with every multiplier, for all values on every box: there is no stop exactly
-- where no value passes a bound, and a stop is the answer exactly where it is the least
abbrev pub LeastStop : Type 0
LeastStop =
    (phase : Phase) (by : Multiplier) (low size : Triple) (f : Axis → Triple → ℤ)
    → ((least_fault phase by low size f ≡ None) ↔ EachBounded by low size f)
    × ((stop : Stop) → (least_fault phase by low size f ≡ Some stop)
    ↔ IsLeastStop phase by low size f stop)
