-- Force values, and their sums over the places of a component under the weights of three pairs.
use Rattle.std.specs.Prelude.{ℤ, pos, ℕ, ◌<◌, ◌*ℤ◌, List, length, slice_index_or}
use Rattle.pic_num.specs.declared.axis.Axis.{Axis}
use Rattle.pic_num.specs.declared.axis.Axis.TheVariants.{X, Y, Z}
use Rattle.pic_num.specs.Limits.{most_force}
use Rattle.pic_num.specs.Space.{Triple, Spot}
use Rattle.pic_num.specs.Sizes.{IsAtMost}
use Rattle.pic_grid.specs.Gather.{gathered}
use Rattle.pic_grid.specs.Lattice.{Field, value_at, EachAtMost}
use Rattle.pic_grid.specs.Sums.{sum_below}
use Rattle.pic_grid.specs.declared.pair.Pair.{Pair}
use Rattle.pic_grid.specs.Pair.{weight_in}

-- every value of a lattice is within the bound of a force value
abbrev pub AreForces : Field → Type 0
AreForces = EachAtMost most_force

-- one entry of a list is such a value
pub record IsForce (values : List ℤ) (i : ℕ) : Type 0 where
  pub below : i < length values
  pub small : IsAtMost (slice_index_or values i (pos 0)) most_force

-- the weighted sum along a row of places
unfoldable pub row_sum : Field → Axis → Pair → ℕ → ℕ → ℤ
row_sum f a in_x y z =
    sum_below f.cells.x
    (λ x. value_at f a (record { x = x; y = y; z = z }) *ℤ pos (weight_in in_x x))

-- the weighted sum over the rows of a layer
unfoldable pub layer_sum : Field → Axis → Pair → Pair → ℕ → ℤ
layer_sum f a in_x in_y z =
    sum_below f.cells.y (λ y. row_sum f a in_x y z *ℤ pos (weight_in in_y y))

-- the weighted sum over the layers: over all places
unfoldable pub whole_sum : Field → Axis → Pair → Pair → Pair → ℤ
whole_sum f a in_x in_y in_z =
    sum_below f.cells.z (λ z. layer_sum f a in_x in_y z *ℤ pos (weight_in in_z z))

-- the three components at a point of a field whose components stand so far above the nodes, on
-- their own axis and on the two others: half a side and 0 make E, 0 and half a side make B
abbrev pub gathered_by : ℕ → Triple → ℕ → ℕ → (Axis → Triple → ℤ) → Triple → Spot
gathered_by side n own other force point = record {
  x = gathered side n (record { x = own; y = other; z = other }) (force X) point;
  y = gathered side n (record { x = other; y = own; z = other }) (force Y) point;
  z = gathered side n (record { x = other; y = other; z = own }) (force Z) point;
}
