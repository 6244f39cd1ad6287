-- The places of a lattice with a part for each layer of z.
use Rattle.std.proofs.Common.{◌≡◌, ℕ, ◌+◌, ◌*◌, ◌<◌, List, slice_index_or, sym, ◌∙◌, ap, subst, arith}
use Rattle.std.proofs.Math.IntN.{ℤ, pos}
use Rattle.pic_num.specs.declared.axis.Axis.{Axis}
use Rattle.pic_num.specs.Limits.{most_force}
use Rattle.pic_num.specs.Sizes.{IsAtMost}
use Rattle.pic_num.specs.Space.{Triple, axis_number}
use Rattle.pic_block.specs.Cells.{IsWithin, index_of, place_of}
use Rattle.pic_block.specs.Weak.{most_weak}
use Rattle.pic_block.proofs.CellLaws.{place_of_below}
use Rattle.pic_grid.specs.Lattice.{Field, value_at}
use Rattle.pic_grid.specs.Parts.{IsLayer, IsWeakLayer}
use Rattle.pic_gather.specs.Forces.{AreForces, IsForce, row_sum}
use Rattle.pic_gather.specs.Sides.{IsSide}
use Rattle.pic_gather.specs.declared.sides.Side.{Side}
use Rattle.pic_gather.proofs.MixLaws.{mix, mixed}

-- the number of a place in its layer is in range
layer_below : (n : Triple) (a : Axis) (x y : ℕ) → x < n.x → y < n.y → axis_number a * (n.x * n.y) + y * n.x + x < 3 * (n.x * n.y)
unfolding place_of index_of
layer_below n a x y in_x in_y =
    let thin : Triple = record { x = n.x; y = n.y; z = 1 } in
    let cell : Triple = record { x = x; y = y; z = 0 } in
    let inside : IsWithin cell thin = record { x = in_x; y = in_y; z = omega arith } in
    let below : axis_number a * (n.x * n.y * 1) + ((0 * n.y + y) * n.x + x) < 3 * (n.x * n.y * 1) = place_of_below thin a cell inside in
    omega (arith, below)

-- a list has the values of a layer of a lattice of forces, those of an axis from the number first on
pub record IsList (f : Field) (z : ℕ) (values : List ℤ) (a : Axis) (first : ℕ) : Type 0 where
  pub layer : IsLayer f z values
  pub in_z : z < f.cells.z
  pub small : AreForces f
  pub first_is : first ≡ axis_number a * (f.cells.x * f.cells.y)

pub list_of : (f : Field) (z : ℕ) (values : List ℤ) (a : Axis) (number : ℕ) (n : Triple) → IsLayer f z values → z < f.cells.z → AreForces f
    → number ≡ axis_number a → n ≡ f.cells → IsList f z values a (number * (n.x * n.y))
list_of f z values a number n layer in_z small number_is n_is =
    record { layer = layer; in_z = in_z; small = small; first_is = λ i. number_is i * ((n_is i).x * (n_is i).y) }

-- a row of such a layer
module _ (f : Field) (z : ℕ) (values : List ℤ) (a : Axis) (first : ℕ) (l : IsList f z values a first) (x : Side) (on : IsSide f.side f.cells.x 1 x)
    (j y : ℕ) (in_y : j < f.cells.y) (y_is : y ≡ j * f.cells.x)
  where
    abbrev cell : ℕ → Triple
    cell i = record { x = i; y = j; z = z }

    place : (i m : ℕ) → m ≡ i * 1 → first + y + m ≡ axis_number a * (f.cells.x * f.cells.y) + j * f.cells.x + i
    place i m is = (λ t. l.first_is t + y_is t + is t) ∙ omega arith

    value : (i m : ℕ) → i < f.cells.x → m ≡ i * 1 → slice_index_or values (first + y + m) (pos 0) ≡ value_at f a (cell i)
    value i m in_x is = ap (λ (t : ℕ). slice_index_or values t (pos 0)) (place i m is) ∙ l.layer.at a i j in_x in_y

    force : (i m : ℕ) → i < f.cells.x → m ≡ i * 1 → IsForce values (first + y + m)
    force i m in_x is =
        let below = layer_below f.cells a i j in_x in_y in
        let size = l.layer.long in
        let inside : IsWithin (cell i) f.cells = record { x = in_x; y = in_y; z = l.in_z } in
        record {
          below = omega (arith, below, size, place i m is);
          small = subst (λ (v : ℤ). IsAtMost v most_force) (sym (value i m in_x is)) (l.small.at_most a (cell i) inside);
        }

    -- the values at both places of a point are forces,
    pub low_force : IsForce values (first + y + x.low)
    low_force = force x.pair.low x.low on.pair.low on.low

    pub high_force : IsForce values (first + y + x.high)
    high_force = force x.pair.high x.high on.pair.high on.high

    -- weak ones where the layer is weak,
    pub low_weak : IsWeakLayer f z → IsAtMost (slice_index_or values (first + y + x.low) (pos 0)) most_weak
    low_weak w = subst (λ (v : ℤ). IsAtMost v most_weak) (sym (value x.pair.low x.low on.pair.low on.low)) (w.at a x.pair.low j on.pair.low in_y)

    pub high_weak : IsWeakLayer f z → IsAtMost (slice_index_or values (first + y + x.high) (pos 0)) most_weak
    high_weak w = subst (λ (v : ℤ). IsAtMost v most_weak) (sym (value x.pair.high x.high on.pair.high on.high)) (w.at a x.pair.high j on.pair.high in_y)

    -- and the mix of them is the sum along the row
    pub row_is : (r : ℤ)
        → r ≡ mix (slice_index_or values (first + y + x.low) (pos 0)) (slice_index_or values (first + y + x.high) (pos 0))
        x.pair.low_weight x.pair.high_weight
        → r ≡ row_sum f a x.pair j z
    unfolding row_sum
    row_is r is =
        mixed f.side f.cells.x (λ i. value_at f a (cell i)) x.pair _ _ r on.pair
        (value x.pair.low x.low on.pair.low on.low) (value x.pair.high x.high on.pair.high on.high) is
