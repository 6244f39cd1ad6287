-- The law of the layers on three axes: what the layers of one tile give to an edge by the 27 directions
-- adds up to the images of that edge.
use Rattle.std.proofs.Common.{◌≡◌, ℕ, ◌+◌, ◌-◌, ◌*◌, ◌/◌, ◌%◌, ◌<◌, ◌⊎◌, inl, inr, Bool, true, false, cond, Option, Some, None, refl, sym, ◌∙◌, ap, arith}
use Rattle.std.proofs.Math.IntN.{ℤ, pos, ◌+ℤ◌, ◌-ℤ◌}
use Rattle.std.proofs.lemmas.Bool.{cases_Bool, and_parts, eqb-true, eq-eqb, false_from_ne_true, true≢false}
use Rattle.std.proofs.lemmas.Int.{ints}
use Rattle.std.specs.Prelude.{◌==◌, ◌&&◌}
use Rattle.pic_block.specs.Block.{outer_of}
use Rattle.pic_block.specs.Cells.{IsWithin, count_of, index_of, cell_of}
use Rattle.pic_block.proofs.CellLaws.{cell_of-index_of, index_of-cell_of, cell_of_within}
use Rattle.pic_grid.specs.Hat.{HasTwo}
use Rattle.pic_num.specs.Space.{Triple, Spot}
use Rattle.pic_grid.specs.Current.{sum_images, wrapped}
use Rattle.pic_grid.specs.Sums.{sum_below}
use Rattle.pic_grid.proofs.SumLaws.{sum_same}
use Rattle.pic_tile.proofs.SumLaws.{sum_none}
use Rattle.pic_tile.specs.Directions.{directions, ring_step}
use Rattle.pic_tile.specs.Layers.{layer_at, at_some, pick, IsBeyondTile, lowest_cell, sender_of, given_at, StaysByTile}
use Rattle.pic_tile.specs.Tiling.{Tiling, cells_of, place_beside}
use Rattle.pic_tile.proofs.OneAxisLaws.{axis_part, one_axis}
use Rattle.pic_tile.proofs.TilingLaws.{stepped_within, steps_back}

-- Sums of zeros.

pub some_none : (o : Option ℤ) → at_some o (λ j. pos 0) ≡ pos 0
some_none None = refl
some_none (Some j) = refl

images_none : (n : ℕ) (f : ℤ → ℤ) (i : ℕ) → ((j : ℤ) → f j ≡ pos 0) → sum_images n f i ≡ pos 0
unfolding sum_images
images_none n f i none =
    let low = none (pos i -ℤ pos n) in
    let mid = none (pos i) in
    let high = none (pos i +ℤ pos n) in omega (arith, ints, low, mid, high)

-- A sum goes through a choice.

some_sum : (o : Option ℤ) (k : ℕ) (g : ℤ → ℕ → ℤ) → at_some o (λ j. sum_below k (g j)) ≡ sum_below k (λ i. at_some o (λ j. g j i))
some_sum None k g = sym (sum_none k)
some_sum (Some j) k g = refl

-- the tests of three axes go to their axes
tests_out : (b c e : Bool) (x y z : Option ℤ) (f : Spot → ℤ)
    → pick (b && (c && e)) (at_some z (λ k. at_some y (λ j. at_some x (λ i. f (record { x = i; y = j; z = k })))))
    ≡ at_some (cond e z None) (λ k. at_some (cond c y None) (λ j. at_some (cond b x None) (λ i. f (record { x = i; y = j; z = k }))))
tests_out true true true x y z f = refl
tests_out true true false x y z f = refl
tests_out true false true x y z f = sym (some_none z)
tests_out true false false x y z f = refl
tests_out false true true x y z f = sym (some_none z) ∙ ap (at_some z) (λ i k. sym (some_none y) i)
tests_out false true false x y z f = refl
tests_out false false true x y z f = sym (some_none z)
tests_out false false false x y z f = refl

-- a sum over the directions by their steps
by_steps : (h : ℕ → ℕ → ℕ → ℤ)
    → sum_below 27 (λ d. h (d % 3) (d / 3 % 3) (d / 9)) ≡ sum_below 3 (λ z. sum_below 3 (λ y. sum_below 3 (λ x. h x y z)))
unfolding sum_below
by_steps h = omega (arith, ints)

-- The sender in a direction.

abbrev same_place : Triple → Triple → Bool
same_place p q = p.x == q.x && (p.y == q.y && p.z == q.z)

same_place-true : (p q : Triple) → same_place p q ≡ true → p ≡ q
same_place-true p q h =
    let x = and_parts (p.x == q.x) _ h in
    let y = and_parts (p.y == q.y) _ x.1 in
    let ex = eqb-true p.x q.x x.0 in
    let ey = eqb-true p.y q.y y.0 in
    let ez = eqb-true p.z q.z y.1 in λ i. record { x = ex i; y = ey i; z = ez i }

same_place-same : (p : Triple) → same_place p p ≡ true
same_place-same p = λ i. eq-eqb p.x p.x refl i && (eq-eqb p.y p.y refl i && eq-eqb p.z p.z refl i)

-- a number is that of a place where that is the number's place
place_test : (n p : Triple) (t : ℕ) → IsWithin p n → (index_of n p == t) ≡ same_place p (cell_of n t)
place_test n p t w = go (cases_Bool (same_place p (cell_of n t)))
  where
    go : (same_place p (cell_of n t) ≡ true) ⊎ (same_place p (cell_of n t) ≡ false) → (index_of n p == t) ≡ same_place p (cell_of n t)
    go (inl same) =
        let is : index_of n p ≡ t = ap (index_of n) (same_place-true p (cell_of n t) same) ∙ index_of-cell_of n t in
        eq-eqb (index_of n p) t is ∙ sym same
    go (inr other) =
        let fails : (index_of n p == t) ≡ true → ⊥ = λ same.
        let is : p ≡ cell_of n t = sym (cell_of-index_of n p w) ∙ ap (cell_of n) (eqb-true (index_of n p) t same) in
        true≢false (sym (ap (λ (c : Triple). same_place p c) (sym is) ∙ same_place-same p) ∙ other) in
        false_from_ne_true (index_of n p == t) fails ∙ sym other

-- by the three axes
sender_test : (m : Tiling) (t r d : ℕ) → d < directions → r < count_of m.tiles
    → (sender_of m d r == t)
    ≡ same_place (place_beside m.tiles (record { x = 2 - d % 3; y = 2 - d / 3 % 3; z = 2 - d / 9 }) (cell_of m.tiles r)) (cell_of m.tiles t)
sender_test m t r d below among =
    let steps : Triple = record { x = 2 - d % 3; y = 2 - d / 3 % 3; z = 2 - d / 9 } in
    let place = cell_of m.tiles r in
    ap (λ (e : Triple). index_of m.tiles (place_beside m.tiles e place) == t) (steps_back d below)
    ∙ place_test m.tiles (place_beside m.tiles steps place) t (stepped_within m.tiles steps place (cell_of_within m.tiles r among))

-- The sum over the directions.

pub three_axes : (m : Tiling) (t r : ℕ) (q : Triple) (f : Spot → ℤ) → HasTwo m.size → t < count_of m.tiles → r < count_of m.tiles → IsWithin q m.size
    → StaysByTile m t f
    → sum_below directions (λ d. pick (sender_of m d r == t) (given_at m t d f q)) ≡ wrapped (cells_of m) f (outer_of (lowest_cell m r) q)
unfolding given_at wrapped
three_axes m t r q f thick sends among inner stays =
    sum_same directions (λ d. pick (sender_of m d r == t) (given_at m t d f q)) (λ d. all (d % 3) (d / 3 % 3) (d / 9)) by_axes
    ∙ by_steps all
    ∙ (λ i. sum_below 3 (λ z. sum_below 3 (λ y. over_x y z i)))
    ∙ (λ i. sum_below 3 (λ z. over_y z i))
    ∙ one_axis m.tiles.z m.size.z to.z at.z q.z planes thick.z to_within.z at_within.z inner.z planes_none
  where
    to : Triple
    to = cell_of m.tiles t

    at : Triple
    at = cell_of m.tiles r

    to_within : IsWithin (cell_of m.tiles t) m.tiles
    to_within = cell_of_within m.tiles t sends

    at_within : IsWithin (cell_of m.tiles r) m.tiles
    at_within = cell_of_within m.tiles r among

    on_x : (ℤ → ℤ) → ℕ → ℤ
    on_x g e = axis_part m.tiles.x m.size.x (cell_of m.tiles t).x (cell_of m.tiles r).x g q.x e

    on_y : (ℤ → ℤ) → ℕ → ℤ
    on_y g e = axis_part m.tiles.y m.size.y (cell_of m.tiles t).y (cell_of m.tiles r).y g q.y e

    on_z : (ℤ → ℤ) → ℕ → ℤ
    on_z g e = axis_part m.tiles.z m.size.z (cell_of m.tiles t).z (cell_of m.tiles r).z g q.z e

    line : ℤ → ℤ → ℤ → ℤ
    line z y x = f (record { x = x; y = y; z = z })

    lines : ℤ → ℤ → ℤ
    lines z y = sum_images (m.tiles.x * m.size.x) (line z y) ((cell_of m.tiles r).x * m.size.x + q.x)

    planes : ℤ → ℤ
    planes z = sum_images (m.tiles.y * m.size.y) (lines z) ((cell_of m.tiles r).y * m.size.y + q.y)

    all : ℕ → ℕ → ℕ → ℤ
    all x y z = on_z (λ k. on_y (λ j. on_x (line k j) x) y) z

    by_axes : (d : ℕ) → d < directions → pick (sender_of m d r == t) (given_at m t d f q) ≡ all (d % 3) (d / 3 % 3) (d / 9)
    by_axes d below =
        ap (λ (b : Bool). pick b (given_at m t d f q)) (sender_test m t r d below among)
        ∙ tests_out
        (ring_step m.tiles.x (2 - d % 3) at.x == to.x) (ring_step m.tiles.y (2 - d / 3 % 3) at.y == to.y) (ring_step m.tiles.z (2 - d / 9) at.z == to.z)
        (layer_at m.size.x (pos (to.x * m.size.x)) (d % 3) q.x) (layer_at m.size.y (pos (to.y * m.size.y)) (d / 3 % 3) q.y)
        (layer_at m.size.z (pos (to.z * m.size.z)) (d / 9) q.z) f

    option_y : ℕ → Option ℤ
    option_y e = cond (ring_step m.tiles.y (2 - e) at.y == to.y) (layer_at m.size.y (pos (to.y * m.size.y)) e q.y) None

    option_z : ℕ → Option ℤ
    option_z e = cond (ring_step m.tiles.z (2 - e) at.z == to.z) (layer_at m.size.z (pos (to.z * m.size.z)) e q.z) None

    over_line : (z y : ℤ) → sum_below 3 (on_x (line z y)) ≡ lines z y
    over_line z y = one_axis m.tiles.x m.size.x to.x at.x q.x (line z y) thick.x to_within.x at_within.x inner.x
        (λ x beyond. stays.x (record { x = x; y = y; z = z }) beyond)

    over_x : (y z : ℕ) → sum_below 3 (λ x. all x y z) ≡ on_z (λ k. on_y (lines k) y) z
    over_x y z =
        sym (some_sum (option_z z) 3 (λ k x. on_y (λ j. on_x (line k j) x) y))
        ∙ (λ i. at_some (option_z z) (λ k. sym (some_sum (option_y y) 3 (λ j x. on_x (line k j) x)) i))
        ∙ (λ i. at_some (option_z z) (λ k. at_some (option_y y) (λ j. over_line k j i)))

    lines_none : (z y : ℤ) → IsBeyondTile (pos (to.y * m.size.y)) m.size.y y → lines z y ≡ pos 0
    lines_none z y beyond = images_none (m.tiles.x * m.size.x) (line z y) (at.x * m.size.x + q.x) (λ x. stays.y (record { x = x; y = y; z = z }) beyond)

    over_plane : (z : ℤ) → sum_below 3 (on_y (lines z)) ≡ planes z
    over_plane z = one_axis m.tiles.y m.size.y to.y at.y q.y (lines z) thick.y to_within.y at_within.y inner.y (lines_none z)

    over_y : (z : ℕ) → sum_below 3 (λ y. on_z (λ k. on_y (lines k) y) z) ≡ on_z planes z
    over_y z =
        sym (some_sum (option_z z) 3 (λ k y. on_y (lines k) y))
        ∙ (λ i. at_some (option_z z) (λ k. over_plane k i))

    planes_none : (z : ℤ) → IsBeyondTile (pos (to.z * m.size.z)) m.size.z z → planes z ≡ pos 0
    planes_none z beyond =
        images_none (m.tiles.y * m.size.y) (lines z) (at.y * m.size.y + q.y)
        (λ y. images_none (m.tiles.x * m.size.x) (line z y) (at.x * m.size.x + q.x) (λ x. stays.z (record { x = x; y = y; z = z }) beyond))
