-- Which force value of a field is too large, with no walk along its places. The order of places is
-- this project's profile: the axis first, then z, then y, then x.
use Rattle.std.specs.Prelude.{◌≡◌, ◌↔◌, ℤ, ◌<◌, unsigned_abs, Some, None}
use Rattle.pic_num.specs.declared.axis.Axis.{Axis}
use Rattle.pic_num.specs.Limits.{most_force}
use Rattle.pic_num.specs.Multiplier.{Multiplier}
use Rattle.pic_num.specs.Rounding.{scaled}
use Rattle.pic_num.specs.Sizes.{IsAtMost}
use Rattle.pic_num.specs.Space.{Triple}
use Rattle.pic_block.specs.Cells.{IsWithin}
use Rattle.pic_field.specs.LeastStop.{IsBefore}
use Rattle.pic_deck.specs.Initial.{first_strong, AreWeak}

-- a number is the force value of a place on n cells, and too large; at no place before it is one
pub record IsLeastStrong (n : Triple) (by : Multiplier) (g : Axis → Triple → ℤ) (force : ℤ) : Type 0
  where
    pub axis : Axis
    pub cell : Triple
    pub within : IsWithin cell n
    pub value : force ≡ scaled (g axis cell) by
    pub large : most_force < unsigned_abs force
    pub least : (b : Axis) (q : Triple) → IsWithin q n → IsBefore b q axis cell
        → IsAtMost (scaled (g b q) by) most_force

-- with every multiplier, for every field on every number of cells: none is found exactly where no
-- force value is too large, and a number is found exactly where it is that of the least place
abbrev pub LeastStrong : Type 0
LeastStrong =
    (n : Triple) (by : Multiplier) (g : Axis → Triple → ℤ)
    → ((first_strong n by g ≡ None) ↔ AreWeak n by g)
    × ((force : ℤ) → (first_strong n by g ≡ Some force) ↔ IsLeastStrong n by g force)
