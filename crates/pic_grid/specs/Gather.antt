-- The gather of E and B from Yee's grid at a point: force values (a field's values times a
-- multiplier) under linear weights, each component on its own shifted grid, rounded once.
-- The roundings are this project's profile.
use Rattle.std.specs.Prelude.{◌≡◌, ℤ, pos, ℕ, ◌+◌, ◌*◌, ◌/◌, ◌^◌, ◌<◌, ◌*ℤ◌, List, slice_index_or}
use Rattle.pic_num.specs.declared.axis.Axis.{Axis}
use Rattle.pic_num.specs.declared.axis.Axis.TheVariants.{X, Y, Z}
use Rattle.pic_num.specs.Multiplier.{Multiplier}
use Rattle.pic_num.specs.Rounding.{rounded, scaled}
use Rattle.pic_num.specs.Space.{Triple, Spot}
use Rattle.pic_block.specs.Cells.{index_of}
use Rattle.pic_grid.specs.Hat.{periodic_hat, HasTwo, IsInBox}
use Rattle.pic_grid.specs.Sums.{sum_cells}

-- the force values of a field: its values times a multiplier, each rounded once
abbrev pub force_of : Multiplier → (Axis → Triple → ℤ) → Axis → Triple → ℤ
force_of by field a p = scaled (field a p) by

-- where a component of E stands in its cell: half a side along its own axis
abbrev pub offset_e : ℕ → Axis → Triple
offset_e side X = record { x = side / 2; y = 0; z = 0 }
offset_e side Y = record { x = 0; y = side / 2; z = 0 }
offset_e side Z = record { x = 0; y = 0; z = side / 2 }

-- where a component of B stands in its cell: half a side along the two other axes
abbrev pub offset_b : ℕ → Axis → Triple
offset_b side X = record { x = 0; y = side / 2; z = side / 2 }
offset_b side Y = record { x = side / 2; y = 0; z = side / 2 }
offset_b side Z = record { x = side / 2; y = side / 2; z = 0 }

-- the weight of a point for the place of cell p on the grid that is shifted by offset
unfoldable pub shifted_weight : ℕ → Triple → Triple → Triple → Triple → ℕ
shifted_weight side n offset point p =
    periodic_hat side (n.x * side) point.x (p.x * side + offset.x)
    * periodic_hat side (n.y * side) point.y (p.y * side + offset.y)
    * periodic_hat side (n.z * side) point.z (p.z * side + offset.z)

-- what the place of cell p adds to a component at a point: its force value times its weight
abbrev pub weighted : ℕ → Triple → Triple → (Triple → ℤ) → Triple → Triple → ℤ
weighted side n offset force point p = force p *ℤ pos (shifted_weight side n offset point p)

-- one component at a point: the mean of its force values over all places, rounded once
unfoldable pub gathered : ℕ → Triple → Triple → (Triple → ℤ) → Triple → ℤ
gathered side n offset force point =
    rounded (sum_cells n (λ p. weighted side n offset force point p)) (pos (side ^ 3))

-- a component given by the list of its values, in the order z, y, x of cells (x fastest)
unfoldable pub laid_out : Triple → List ℤ → Triple → ℤ
laid_out n values p = slice_index_or values (index_of n p) (pos 0)

-- the three components of E at a point, of force values
abbrev pub gathered_e : ℕ → Triple → (Axis → Triple → ℤ) → Triple → Spot
gathered_e side n force point = record {
  x = gathered side n (offset_e side X) (force X) point;
  y = gathered side n (offset_e side Y) (force Y) point;
  z = gathered side n (offset_e side Z) (force Z) point;
}

-- the three components of B at a point, of force values
abbrev pub gathered_b : ℕ → Triple → (Axis → Triple → ℤ) → Triple → Spot
gathered_b side n force point = record {
  x = gathered side n (offset_b side X) (force X) point;
  y = gathered side n (offset_b side Y) (force Y) point;
  z = gathered side n (offset_b side Z) (force Z) point;
}

-- an offset that stays within the side of a cell
pub record IsOffset (side : ℕ) (offset : Triple) : Type 0 where
  pub x : offset.x < side
  pub y : offset.y < side
  pub z : offset.z < side

-- a component that has one force value everywhere is gathered as that value, at every point
abbrev pub ConstantIsGathered : Type 0
ConstantIsGathered =
    (side : ℕ) (n offset point : Triple) (value : ℤ)
    → 0 < side
    → HasTwo n
    → IsOffset side offset
    → IsInBox side n point
    → gathered side n offset (λ p. value) point ≡ value
