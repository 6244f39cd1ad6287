-- A walk that adds some layers to a block, layer by layer of z.
use Rattle.std.proofs.Common.{◌≡◌, ◌≢◌, ℕ, ◌+◌, ◌-◌, ◌*◌, ◌<◌, ◌≤◌, ltb, inl, inr, Bool, true, false, cond, List, get_or, refl, sym, ap, ◌∙◌, subst, arith}
use Rattle.std.proofs.Math.IntN.{ℤ, pos, ◌+ℤ◌}
use Rattle.std.proofs.Math.Nat.{mul-le-mul_right}
use Rattle.std.proofs.lemmas.Bool.{cases_eq, lt-ltb, le-ltb, false≢true}
use Rattle.std.proofs.lemmas.Bool.Decides.{nat_tests}
use Rattle.std.proofs.lemmas.Int.{ints}
use Rattle.pic_num.specs.declared.axis.Axis.{Axis}
use Rattle.pic_num.specs.declared.axis.Axis.TheVariants.{X, Z}
use Rattle.pic_num.specs.Sizes.{IsAtMost}
use Rattle.pic_num.specs.Space.{Triple, axis_number}
use Rattle.pic_num.proofs.AxisLaws.{axis_below}
use Rattle.pic_block.specs.BlockLayers.{FitsAt, AddsLayers, NumbersAtMost, box_of, is_over, lowered_by, layer_of}
use Rattle.pic_block.specs.Cells.{IsWithin, count_of, index_of, axis_of, place_of}
use Rattle.pic_block.specs.Rows.{row_of}
use Rattle.pic_block.proofs.BlockLayerLaws.{over_tells, tells_over, layer_over, layer_off, add_none}
use Rattle.pic_block.proofs.CellLaws.{axis_number-of, place_of_same}
use Rattle.pic_block.proofs.RowLaws.{place_of-row, row_fits}

-- the components of the first z of n layers are added to numbers over m layers
pub record LayersAdded (m n o : Triple) (from old : List ℤ) (z : ℕ) (now : List ℤ) : Type 0 where
  pub here : (a : Axis) (p : Triple) → IsWithin p m → get_or now (place_of m a p) (pos 0)
      ≡ get_or old (place_of m a p) (pos 0) +ℤ cond (ltb (p.z - o.z) z) (layer_of n from o a p) (pos 0)

cond_none : (b : Bool) → cond b (pos 0) (pos 0) ≡ pos 0
cond_none true = refl
cond_none false = refl

-- none are at first,
pub layers_none : (m n o : Triple) (from old : List ℤ) → LayersAdded m n o from old 0 old
layers_none m n o from old = record { here = λ a p w. add_none (get_or old (place_of m a p) (pos 0)) _ (none (layer_of n from o a p) (p.z - o.z)) }
  where
    none : (v : ℤ) (k : ℕ) → cond (ltb k 0) v (pos 0) ≡ pos 0
    none v k = ap (λ (b : Bool). cond b v (pos 0)) (le-ltb k 0 (omega arith))

-- and all are in the end
pub layers_all : (m n o : Triple) (from old : List ℤ) (z : ℕ) (now : List ℤ) → z ≡ n.z → LayersAdded m n o from old z now
    → AddsLayers (box_of m old) (box_of m now) (box_of n from) o
layers_all m n o from old z now end added = record {
  at = λ a p w. added.here a p w ∙ ap (λ (v : ℤ). get_or old (place_of m a p) (pos 0) +ℤ v) (all a p (is_over o n p) refl);
}
  where
    all : (a : Axis) (p : Triple) (b : Bool) → is_over o n p ≡ b → cond (ltb (p.z - o.z) z) (layer_of n from o a p) (pos 0) ≡ layer_of n from o a p
    all a p true e =
        let over = over_tells o n p e in
        let low = over.above_z in
        let high = over.below_z in
        ap (λ (b : Bool). cond b (layer_of n from o a p) (pos 0)) (lt-ltb (p.z - o.z) z (omega (arith, low, high, end)))
    all a p false e =
        let off = layer_off n from o a p e in
        ap (λ (v : ℤ). cond (ltb (p.z - o.z) z) v (pos 0)) off ∙ cond_none (ltb (p.z - o.z) z) ∙ sym off

-- a row further in a layer
row_of-further : (n : Triple) (a : Axis) (y z j : ℕ) → row_of n a (y + j) z ≡ row_of n a y z + j * n.x
unfolding place_of index_of
row_of-further n a y z j = omega arith

from_first : (n : Triple) (a : Axis) (y z : ℕ) → row_of n a y z ≡ row_of n a 0 z + y * n.x
unfolding place_of index_of
from_first n a y z = omega arith

-- the first row of all
pub first_of : (n : Triple) → 0 ≡ row_of n X 0 0
unfolding place_of index_of
first_of n = omega arith

-- and a layer further
pub row_of-above : (n : Triple) (a : Axis) (y z next start : ℕ) → next ≡ z + 1 → start ≡ row_of n a y z → start + n.y * n.x ≡ row_of n a y next
unfolding place_of index_of
row_of-above n a y z next start above is = (λ t. is t + n.y * n.x) ∙ (omega arith ∙ ap (λ (k : ℕ). row_of n a y k) (sym above))

-- where a place in that row stands as far behind its first
pub place_above : (n : Triple) (a : Axis) (y z next x at : ℕ) → next ≡ z + 1 → at ≡ row_of n a y z + x → at + n.y * n.x ≡ row_of n a y next + x
place_above n a y z next x at above is =
    let row = row_of-above n a y z next (row_of n a y z) above refl in omega (arith, row, is)

-- the place of the layer behind a row is no more than twice as far as the end of the numbers
pub layer_behind : (m : Triple) (a : Axis) (y z x : ℕ) → y < m.y → z < m.z → x ≤ m.x → row_of m a y z + x + m.y * m.x ≤ 6 * count_of m
layer_behind m a y z x in_y in_z in_x =
    let row = row_fits m a y z in_y in_z in
    let one : 1 * (m.x * m.y) ≤ m.z * (m.x * m.y) = mul-le-mul_right (m.x * m.y) (omega (arith, in_z)) in
    omega (arith, row, one, in_x)

-- the rows on the other axes are as far behind as those on x
pub row_of-axis : (n : Triple) (a : Axis) (y z : ℕ) → row_of n a y z ≡ axis_number a * count_of n + row_of n X y z
unfolding place_of index_of
row_of-axis n a y z = omega arith

-- the rows of a layer on the three axes end among the numbers
pub layer_fits : (m : Triple) (y z rows x count : ℕ) → 0 < rows → y + rows ≤ m.y → z < m.z → x + count ≤ m.x
    → row_of m X y z + x + 2 * (m.y * m.x * m.z) + rows * m.x + count ≤ 3 * count_of m + m.x
layer_fits m y z rows x count some in_y in_z in_x =
    let last = row_fits m Z (y + (rows - 1)) z (omega (arith, some, in_y)) in_z in
    let at = row_of-further m Z y z (rows - 1) in
    let axis = row_of-axis m Z y z in
    let whole : rows * m.x ≡ (rows - 1) * m.x + m.x = (let r : rows ≡ rows - 1 + 1 = omega (arith, some) in ap (λ (k : ℕ). k * m.x) r ∙ omega arith) in
    omega (arith, last, at, axis, whole, in_x)

-- and those of a whole layer
pub layer_ends : (n : Triple) (z : ℕ) → 0 < n.y → z < n.z → row_of n X 0 z + 2 * (n.y * n.x * n.z) + n.y * n.x ≤ 3 * count_of n
layer_ends n z some in_z = let fits = layer_fits n 0 z n.y 0 n.x some (omega arith) in_z (omega arith) in omega (arith, fits)

-- the rows of a layer on an axis end before those on the next
pub layer_apart : (m : Triple) (y rows z : ℕ) → y + rows ≤ m.y → z < m.z → rows * m.x ≤ m.y * m.x * m.z
layer_apart m y rows z in_y in_z =
    let plane : rows * m.x ≤ m.y * m.x = mul-le-mul_right m.x (omega (arith, in_y)) in
    let one : 1 * (m.y * m.x) ≤ m.z * (m.y * m.x) = mul-le-mul_right (m.y * m.x) (omega (arith, in_z)) in
    omega (arith, plane, one)

-- layers of some cells have rows
pub some_rows : (n : Triple) → 0 < count_of n → 0 < n.y
some_rows n h = grind arith

-- one layer more
module _ (m n o : Triple) (from old : List ℤ) (z : ℕ) (now : List ℤ) (at start apart less : ℕ) (fits : FitsAt o n m) (in_z : z < n.z)
    (added : LayersAdded m n o from old z now) (at_is : at ≡ row_of m X o.y (o.z + z) + o.x) (start_is : start ≡ row_of n X 0 z)
    (apart_is : apart ≡ count_of m) (less_is : less ≡ count_of n)
  where
    -- the cell of the layer with the layers x and y
    abbrev cell : ℕ → ℕ → Triple
    cell x y = record { x = o.x + x; y = o.y + y; z = o.z + z }

    cell_within : (x y : ℕ) → x < n.x → y < n.y → IsWithin (cell x y) m
    cell_within x y in_x in_y = record { x = omega (arith, in_x, fits.x); y = omega (arith, in_y, fits.y); z = omega (arith, in_z, fits.z) }

    cell_place : (a : Axis) (i x y : ℕ) → axis_number a ≡ i → place_of m a (cell x y) ≡ at + i * apart + y * m.x + x
    cell_place a i x y number =
        let row = place_of-row m a (o.x + x) (o.y + y) (o.z + z) in
        let further = row_of-further m a o.y (o.z + z) y in
        let axis = row_of-axis m a o.y (o.z + z) in
        let scaled : axis_number a * count_of m ≡ i * apart = (λ t. number t * sym apart_is t) in
        omega (arith, row, further, axis, scaled, at_is)

    cell_over : (x y : ℕ) → x < n.x → y < n.y → is_over o n (cell x y) ≡ true
    cell_over x y in_x in_y = tells_over o n (cell x y) (record {
      above_x = omega arith;
      above_y = omega arith;
      above_z = omega arith;
      below_x = omega (arith, in_x);
      below_y = omega (arith, in_y);
      below_z = omega (arith, in_z);
    })

    lowered : (a : Axis) (i x y : ℕ) → axis_number a ≡ i → place_of n a (lowered_by o (cell x y)) ≡ start + i * less + y * n.x + x
    lowered a i x y number =
        let x_is : o.x + x - o.x ≡ x = omega arith in
        let y_is : o.y + y - o.y ≡ y = omega arith in
        let z_is : o.z + z - o.z ≡ z = omega arith in
        let row = place_of-row n a x y z in
        let first = from_first n a y z in
        let axis = row_of-axis n a 0 z in
        let scaled : axis_number a * count_of n ≡ i * less = (λ t. number t * sym less_is t) in
        let at : place_of n a (record { x = x; y = y; z = z }) ≡ start + i * less + y * n.x + x = omega (arith, row, first, axis, scaled, start_is) in
        (λ t. place_of n a (record { x = x_is t; y = y_is t; z = z_is t })) ∙ at

    early : (x y : ℕ) → ltb ((cell x y).z - o.z) z ≡ false
    early x y = le-ltb (o.z + z - o.z) z (omega arith)

    -- the numbers of the layer are as they were,
    as_it_was : (a : Axis) (x y : ℕ) → x < n.x → y < n.y → get_or now (place_of m a (cell x y)) (pos 0) ≡ get_or old (place_of m a (cell x y)) (pos 0)
    as_it_was a x y in_x in_y =
        let here = added.here a (cell x y) (cell_within x y in_x in_y)
        ∙ ap (λ (b : Bool). get_or old (place_of m a (cell x y)) (pos 0) +ℤ cond b (layer_of n from o a (cell x y)) (pos 0)) (early x y) in
        omega (arith, ints, here)

    -- and so small,
    pub layer_room : (most : ℕ) → NumbersAtMost most old → (x i y : ℕ) → x < n.x → i < 3 → y < n.y
        → IsAtMost (get_or now (at + i * apart + y * m.x + x) (pos 0)) most
    layer_room most small x i y in_x axis in_y =
        subst (λ (k : ℕ). IsAtMost (get_or now k (pos 0)) most) (cell_place (axis_of i) i x y (axis_number-of i axis))
        (subst (λ (v : ℤ). IsAtMost v most) (sym (as_it_was (axis_of i) x y in_x in_y)) (small.at_most (place_of m (axis_of i) (cell x y))))

    module _ (next : List ℤ) (inside : (x i y : ℕ) → x < n.x → i < 3 → y < n.y → get_or next (at + i * apart + y * m.x + x) (pos 0)
        ≡ get_or now (at + i * apart + y * m.x + x) (pos 0) +ℤ get_or from (start + i * less + y * n.x + x) (pos 0))
        (outside : (k : ℕ) → ((x i y : ℕ) → x < n.x → i < 3 → y < n.y → k ≢ at + i * apart + y * m.x + x) → get_or next k (pos 0) ≡ get_or now k (pos 0))
      where
        -- a component that isn't of the layer stays
        untouched : (a : Axis) (p : Triple) → IsWithin p m → (is_over o n p ≡ true → p.z ≡ o.z + z → ⊥)
            → get_or next (place_of m a p) (pos 0) ≡ get_or now (place_of m a p) (pos 0)
        untouched a p w other = outside (place_of m a p) (λ x i y in_x axis in_y e.
            let place = cell_place (axis_of i) i x y (axis_number-of i axis) in
            let both = place_of_same m a p (axis_of i) (cell x y) w (cell_within x y in_x in_y) (e ∙ sym place) in
            other (ap (is_over o n) both.1 ∙ cell_over x y in_x in_y) (ap (λ (q : Triple). q.z) both.1))

        abbrev Goal : Axis → Triple → Type 0
        Goal a p = get_or next (place_of m a p) (pos 0)
            ≡ get_or old (place_of m a p) (pos 0) +ℤ cond (ltb (p.z - o.z) (z + 1)) (layer_of n from o a p) (pos 0)

        here : (a : Axis) (x y : ℕ) → x < n.x → y < n.y → Goal a (cell x y)
        here a x y in_x in_y =
            let i = axis_number a in
            let value = layer_over n from o a (cell x y) (cell_over x y in_x in_y) ∙ ap (λ (k : ℕ). get_or from k (pos 0)) (lowered a i x y refl) in
            let late : ltb ((cell x y).z - o.z) (z + 1) ≡ true = lt-ltb (o.z + z - o.z) (z + 1) (omega arith) in
            let new_is = ap (λ (t : Bool). cond t (layer_of n from o a (cell x y)) (pos 0)) late ∙ value in
            let old_is = as_it_was a x y in_x in_y in
            let next_is = ap (λ (k : ℕ). get_or next k (pos 0)) (cell_place a i x y refl) ∙ inside x i y in_x (axis_below a) in_y
            ∙ ap (λ (k : ℕ). get_or now k (pos 0) +ℤ get_or from (start + i * less + y * n.x + x) (pos 0)) (sym (cell_place a i x y refl)) in
            omega (arith, ints, new_is, old_is, next_is)

        -- where the sum of the layers so far stays
        still : (a : Axis) (p : Triple) → IsWithin p m → (is_over o n p ≡ true → p.z ≡ o.z + z → ⊥)
            → cond (ltb (p.z - o.z) (z + 1)) (layer_of n from o a p) (pos 0) ≡ cond (ltb (p.z - o.z) z) (layer_of n from o a p) (pos 0) → Goal a p
        still a p w other same =
            untouched a p w other ∙ added.here a p w ∙ ap (λ (v : ℤ). get_or old (place_of m a p) (pos 0) +ℤ v) (sym same)

        same_test : (k : ℕ) → (k ≡ z → ⊥) → ltb k (z + 1) ≡ ltb k z
        same_test k other = grind (arith, nat_tests)

        more : (a : Axis) (p : Triple) → IsWithin p m → (t : Bool) → is_over o n p ≡ t → Goal a p
        more a p w false e =
            let off = layer_off n from o a p e in
            still a p w (λ over. absurd (false≢true (sym e ∙ over)))
            (ap (λ (v : ℤ). cond (ltb (p.z - o.z) (z + 1)) v (pos 0)) off ∙ cond_none (ltb (p.z - o.z) (z + 1))
            ∙ sym (ap (λ (v : ℤ). cond (ltb (p.z - o.z) z) v (pos 0)) off ∙ cond_none (ltb (p.z - o.z) z)))
        more a p w true e =
            let over = over_tells o n p e in
            let low_x = over.above_x in
            let low_y = over.above_y in
            let low_z = over.above_z in
            let high_x = over.below_x in
            let high_y = over.below_y in
            elim (cases_eq p.z (o.z + z)) [
              | inl same ↦
                  (let x : o.x + (p.x - o.x) ≡ p.x = omega (arith, low_x) in
                  let y : o.y + (p.y - o.y) ≡ p.y = omega (arith, low_y) in
                  subst (Goal a) (λ t. record { x = x t; y = y t; z = sym same t })
                  (here a (p.x - o.x) (p.y - o.y) (omega (arith, low_x, high_x)) (omega (arith, low_y, high_y))))
              | inr other ↦
                  (let off : p.z - o.z ≡ z → ⊥ = λ k. other (omega (arith, k, low_z)) in
                  still a p w (λ h. other) (ap (λ (b : Bool). cond b (layer_of n from o a p) (pos 0)) (same_test (p.z - o.z) off)))
            ]

        pub layers_more : LayersAdded m n o from old (z + 1) next
        layers_more = record { here = λ a p w. more a p w (is_over o n p) refl }
