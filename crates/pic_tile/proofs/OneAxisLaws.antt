-- The law of the layers on one axis: what the layers of a tile give to a place by the three steps adds
-- up to the images of that place, whether the axis has one tile, two or more.
use Rattle.std.proofs.Common.{◌≡◌, ℕ, ◌+◌, ◌-◌, ◌*◌, ◌<◌, ◌≤◌, ◌⊎◌, inl, inr, Bool, true, false, cond, Some, None, refl, sym, ◌∙◌, ap, arith}
use Rattle.std.proofs.Math.IntN.{ℤ, pos, ◌+ℤ◌, ◌-ℤ◌}
use Rattle.std.proofs.Math.Nat.{mul-le-mul_right}
use Rattle.std.proofs.lemmas.Bool.{cases_eq, cases_lt, cases_Bool, eqb-true}
use Rattle.std.proofs.lemmas.Bool.Decides.{nat_tests}
use Rattle.std.proofs.lemmas.Int.{ints}
use Rattle.std.specs.Prelude.{◌==◌, ◌&&◌, nat_lt, ◌<ℤ◌}
use Rattle.pic_grid.specs.Current.{sum_images}
use Rattle.pic_grid.specs.Sums.{sum_below}
use Rattle.pic_tile.specs.Directions.{ring_step}
use Rattle.pic_tile.specs.Layers.{layer_at, at_some, pick, IsBeyondTile}
use Rattle.pic_tile.proofs.RingLaws.{ring_stays, ring_last, ring_up, ring_first, ring_down}

-- what the step e gives, from the tile t to the place q of the tile r, of k tiles on the axis
abbrev pub axis_part : ℕ → ℕ → ℕ → ℕ → (ℤ → ℤ) → ℕ → ℕ → ℤ
axis_part k n t r g q e = at_some (cond (ring_step k (2 - e) r == t) (layer_at n (pos (t * n)) e q) None) g

-- Choices.

pub pick_same : (b : Bool) (u v : ℤ) → (b ≡ true → u ≡ v) → pick b u ≡ pick b v
pick_same true u v same = same refl
pick_same false u v same = refl

some_if : (b : Bool) (j : ℤ) (g : ℤ → ℤ) → at_some (cond b (Some j) None) g ≡ pick b (g j)
some_if true j g = refl
some_if false j g = refl

some_both : (b c : Bool) (j : ℤ) (g : ℤ → ℤ) → at_some (cond b (cond c (Some j) None) None) g ≡ pick (b && c) (g j)
some_both true true j g = refl
some_both true false j g = refl
some_both false c j g = refl

one_of : (a b c : Bool) (v : ℤ) → a ≡ true → b ≡ false → c ≡ false → v ≡ pick a v +ℤ pick b v +ℤ pick c v
one_of a b c v p q r = rw (p, q, r) (omega (arith, ints))

two_of : (a b c : Bool) (v : ℤ) → a ≡ false → b ≡ true → c ≡ false → v ≡ pick a v +ℤ pick b v +ℤ pick c v
two_of a b c v p q r = rw (p, q, r) (omega (arith, ints))

three_of : (a b c : Bool) (v : ℤ) → a ≡ false → b ≡ false → c ≡ true → v ≡ pick a v +ℤ pick b v +ℤ pick c v
three_of a b c v p q r = rw (p, q, r) (omega (arith, ints))

pick_zero : (b : Bool) (v : ℤ) → v ≡ pos 0 → pick b v ≡ pos 0
pick_zero true v z = z
pick_zero false v z = refl

none_of : (a b c : Bool) (v : ℤ) → v ≡ pos 0 → v ≡ pick a v +ℤ pick b v +ℤ pick c v
none_of a b c v z =
    let p = pick_zero a v z in
    let q = pick_zero b v z in
    let r = pick_zero c v z in omega (arith, ints, p, q, r, z)

pick_true : (b : Bool) (v : ℤ) → b ≡ true → v ≡ pick b v
pick_true b v p = rw p refl

pick_none : (b : Bool) (v : ℤ) → v ≡ pos 0 → v ≡ pick b v
pick_none b v z = z ∙ sym (pick_zero b v z)

left_of : (b c : Bool) (u v w : ℤ) → c ≡ false → u ≡ v → pick b u ≡ pick b v +ℤ pick c w
left_of b c u v w none same = rw (none, same) (omega (arith, ints))

right_of : (b c d : Bool) (u v w : ℤ) → c ≡ false → b ≡ d → u ≡ w → pick b u ≡ pick c v +ℤ pick d w
right_of b c d u v w none is same = rw (none, is, same) (omega (arith, ints))

-- Products.

times_up : (r n t : ℕ) → r + 1 ≡ t → r * n + n ≡ t * n
times_up r n t e = let h : (r + 1) * n ≡ t * n = ap (λ (k : ℕ). k * n) e in omega (arith, h)

times_two : (r n t : ℕ) → r + 1 < t → r * n + n + n ≤ t * n
times_two r n t h = let k : (r + 2) * n ≤ t * n = mul-le-mul_right n (omega (arith, h)) in omega (arith, k)

times_less : (r n t : ℕ) → r < t → r * n + n ≤ t * n
times_less r n t h = let k : (r + 1) * n ≤ t * n = mul-le-mul_right n (omega (arith, h)) in omega (arith, k)

-- The five ways in which a layer of the tile t is a layer q of the tile r: its own, the layer below from
-- the tile above, and that round the end of the axis, the layer above from the tile below, and that
-- round the end.

abbrev is_low : ℕ → ℕ → ℕ → ℕ → Bool
is_low n t r q = r + 1 == t && q + 1 == n

abbrev is_low_round : ℕ → ℕ → ℕ → ℕ → ℕ → Bool
is_low_round k n t r q = r + 1 == k && (t == 0 && q + 1 == n)

abbrev is_high : ℕ → ℕ → ℕ → Bool
is_high t r q = r == t + 1 && nat_lt q 2

abbrev is_high_round : ℕ → ℕ → ℕ → ℕ → Bool
is_high_round k t r q = r == 0 && (t + 1 == k && nat_lt q 2)

-- What each step gives.

own_part : (k n t r q : ℕ) (g : ℤ → ℤ) → r < k → axis_part k n t r g q 1 ≡ pick (r == t) (g (pos (r * n + q)))
own_part k n t r q g below =
    ap (λ (i : ℕ). at_some (cond (i == t) (Some (pos (t * n) +ℤ pos q)) None) g) (ring_stays k 1 r refl below)
    ∙ some_if (r == t) (pos (t * n) +ℤ pos q) g
    ∙ pick_same (r == t) _ _ (λ same.
    let is : t ≡ r = sym (eqb-true r t same) in
    let at : pos (t * n) +ℤ pos q ≡ pos (r * n + q) = ap (λ (i : ℕ). pos (i * n) +ℤ pos q) is ∙ omega (arith, ints) in ap g at)

low_part : (k n t r q : ℕ) (g : ℤ → ℤ) → t < k → r < k → q < n
    → axis_part k n t r g q 0
    ≡ pick (is_low n t r q) (g (pos (r * n + q))) +ℤ pick (is_low_round k n t r q) (g (pos (r * n + q) -ℤ pos (k * n)))
low_part k n t r q g sends below inner = go (cases_eq (r + 1) k)
  where
    v : ℤ
    v = g (pos (r * n + q))

    w : ℤ
    w = g (pos (r * n + q) -ℤ pos (k * n))

    from : (i : ℕ) → ring_step k 2 r ≡ i → axis_part k n t r g q 0 ≡ pick (i == t && q + 1 == n) (g (pos (t * n) -ℤ pos 1))
    from i is =
        ap (λ (i : ℕ). at_some (cond (i == t) (cond (q + 1 == n) (Some (pos (t * n) -ℤ pos 1)) None) None) g) is
        ∙ some_both (i == t) (q + 1 == n) (pos (t * n) -ℤ pos 1) g

    at_next : is_low n t r q ≡ true → pos (t * n) -ℤ pos 1 ≡ pos (r * n + q)
    at_next yes_low =
        let up : r + 1 ≡ t = grind (arith, nat_tests) in
        let last : q + 1 ≡ n = grind (arith, nat_tests) in
        let whole = times_up r n t up in omega (arith, ints, whole, last)

    at_end : r + 1 ≡ k → (0 == t && q + 1 == n) ≡ true → pos (t * n) -ℤ pos 1 ≡ pos (r * n + q) -ℤ pos (k * n)
    at_end end yes_low =
        let first : t ≡ 0 = grind (arith, nat_tests) in
        let none : t * n ≡ 0 * n = ap (λ (i : ℕ). i * n) first in
        let last : q + 1 ≡ n = grind (arith, nat_tests) in
        let whole = times_up r n k end in omega (arith, ints, whole, last, none)

    go : (r + 1 ≡ k) ⊎ (r + 1 ≡ k → ⊥) → axis_part k n t r g q 0 ≡ pick (is_low n t r q) v +ℤ pick (is_low_round k n t r q) w
    go (inl end) =
        let none : is_low n t r q ≡ false = grind (arith, nat_tests) in
        let is : (0 == t && q + 1 == n) ≡ is_low_round k n t r q = grind (arith, nat_tests) in
        from 0 (ring_last k 2 r refl end)
        ∙ pick_same (0 == t && q + 1 == n) _ _ (λ low. ap g (at_end end low))
        ∙ right_of (0 == t && q + 1 == n) (is_low n t r q) (is_low_round k n t r q) w v w none is refl
    go (inr more) =
        let none : is_low_round k n t r q ≡ false = grind (arith, nat_tests) in
        from (r + 1) (ring_up k 2 r refl (omega (arith, more)))
        ∙ pick_same (is_low n t r q) _ _ (λ low. ap g (at_next low))
        ∙ left_of (is_low n t r q) (is_low_round k n t r q) v v w none refl

high_part : (k n t r q : ℕ) (g : ℤ → ℤ) → t < k → r < k → q < n
    → axis_part k n t r g q 2
    ≡ pick (is_high t r q) (g (pos (r * n + q))) +ℤ pick (is_high_round k t r q) (g (pos (r * n + q) +ℤ pos (k * n)))
high_part k n t r q g sends below inner = go (cases_eq r 0)
  where
    v : ℤ
    v = g (pos (r * n + q))

    w : ℤ
    w = g (pos (r * n + q) +ℤ pos (k * n))

    from : (i : ℕ) → ring_step k 0 r ≡ i → axis_part k n t r g q 2 ≡ pick (i == t && nat_lt q 2) (g (pos (t * n) +ℤ pos n +ℤ pos q))
    from i is =
        ap (λ (i : ℕ). at_some (cond (i == t) (cond (nat_lt q 2) (Some (pos (t * n) +ℤ pos n +ℤ pos q)) None) None) g) is
        ∙ some_both (i == t) (nat_lt q 2) (pos (t * n) +ℤ pos n +ℤ pos q) g

    at_next : 0 < r → (r - 1 == t && nat_lt q 2) ≡ true → pos (t * n) +ℤ pos n +ℤ pos q ≡ pos (r * n + q)
    at_next some yes_high =
        let up : t + 1 ≡ r = grind (arith, nat_tests) in
        let whole = times_up t n r up in omega (arith, ints, whole)

    at_first : r ≡ 0 → (k - 1 == t && nat_lt q 2) ≡ true → pos (t * n) +ℤ pos n +ℤ pos q ≡ pos (r * n + q) +ℤ pos (k * n)
    at_first first yes_high =
        let end : t + 1 ≡ k = grind (arith, nat_tests) in
        let none : r * n ≡ 0 * n = ap (λ (i : ℕ). i * n) first in
        let whole = times_up t n k end in omega (arith, ints, whole, none)

    go : (r ≡ 0) ⊎ (r ≡ 0 → ⊥) → axis_part k n t r g q 2 ≡ pick (is_high t r q) v +ℤ pick (is_high_round k t r q) w
    go (inl first) =
        let none : is_high t r q ≡ false = grind (arith, nat_tests) in
        let is : (k - 1 == t && nat_lt q 2) ≡ is_high_round k t r q = grind (arith, nat_tests) in
        from (k - 1) (ring_first k 0 r refl first (omega (arith, below)))
        ∙ pick_same (k - 1 == t && nat_lt q 2) _ _ (λ high. ap g (at_first first high))
        ∙ right_of (k - 1 == t && nat_lt q 2) (is_high t r q) (is_high_round k t r q) w v w none is refl
    go (inr more) =
        let none : is_high_round k t r q ≡ false = grind (arith, nat_tests) in
        let is : (r - 1 == t && nat_lt q 2) ≡ is_high t r q = grind (arith, nat_tests) in
        from (r - 1) (ring_down k 0 r refl (omega (arith, more)) below)
        ∙ pick_same (r - 1 == t && nat_lt q 2) _ _ (λ high. ap g (at_next (omega (arith, more)) high))
        ∙ ap (λ (b : Bool). pick b v) is
        ∙ left_of (is_high t r q) (is_high_round k t r q) v v w none refl

-- What the images are.

-- the place itself
here : (n t r q : ℕ) (g : ℤ → ℤ) → 2 ≤ n → q < n → ((j : ℤ) → IsBeyondTile (pos (t * n)) n j → g j ≡ pos 0)
    → g (pos (r * n + q)) ≡ pick (r == t) (g (pos (r * n + q))) +ℤ pick (is_low n t r q) (g (pos (r * n + q))) +ℤ pick (is_high t r q) (g (pos (r * n + q)))
here n t r q g two inner zeros = go (cases_eq r t)
  where
    v : ℤ
    v = g (pos (r * n + q))

    Goal : Type 0
    Goal = v ≡ pick (r == t) v +ℤ pick (is_low n t r q) v +ℤ pick (is_high t r q) v

    below_zero : pos (r * n + q) <ℤ (pos (t * n) -ℤ pos 1) → Goal
    below_zero low = none_of (r == t) (is_low n t r q) (is_high t r q) v (zeros (pos (r * n + q)) (inl low))

    above_zero : (pos (t * n) +ℤ pos n +ℤ pos 1) <ℤ pos (r * n + q) → Goal
    above_zero high = none_of (r == t) (is_low n t r q) (is_high t r q) v (zeros (pos (r * n + q)) (inr high))

    next_up : r + 1 ≡ t → (q + 1 ≡ n) ⊎ (q + 1 ≡ n → ⊥) → Goal
    next_up up (inl last) = two_of (r == t) (is_low n t r q) (is_high t r q) v (grind (arith, nat_tests)) (grind (arith, nat_tests)) (grind (arith, nat_tests))
    next_up up (inr other) = let whole = times_up r n t up in below_zero (omega (arith, ints, whole, inner, other))

    lower : r < t → (r + 1 ≡ t) ⊎ (r + 1 ≡ t → ⊥) → Goal
    lower h (inl up) = next_up up (cases_eq (q + 1) n)
    lower h (inr more) = let whole = times_two r n t (omega (arith, h, more)) in below_zero (omega (arith, ints, whole, inner, two))

    next_down : t + 1 ≡ r → (q < 2) ⊎ (2 ≤ q) → Goal
    next_down down (inl low) =
        three_of (r == t) (is_low n t r q) (is_high t r q) v (grind (arith, nat_tests)) (grind (arith, nat_tests)) (grind (arith, nat_tests))
    next_down down (inr other) = let whole = times_up t n r down in above_zero (omega (arith, ints, whole, other))

    higher : t < r → (t + 1 ≡ r) ⊎ (t + 1 ≡ r → ⊥) → Goal
    higher h (inl down) = next_down down (cases_lt q 2)
    higher h (inr more) = let whole = times_two t n r (omega (arith, h, more)) in above_zero (omega (arith, ints, whole, two))

    apart : (r < t) ⊎ (t ≤ r) → (r ≡ t → ⊥) → Goal
    apart (inl low) other = lower low (cases_eq (r + 1) t)
    apart (inr high) other = higher (omega (arith, high, other)) (cases_eq (t + 1) r)

    go : (r ≡ t) ⊎ (r ≡ t → ⊥) → Goal
    go (inl same) = one_of (r == t) (is_low n t r q) (is_high t r q) v (grind (arith, nat_tests)) (grind (arith, nat_tests)) (grind (arith, nat_tests))
    go (inr other) = apart (cases_lt r t) other

-- the place one box below
under_box : (k n t r q : ℕ) (g : ℤ → ℤ) → 2 ≤ n → r < k → q < n → ((j : ℤ) → IsBeyondTile (pos (t * n)) n j → g j ≡ pos 0)
    → g (pos (r * n + q) -ℤ pos (k * n)) ≡ pick (is_low_round k n t r q) (g (pos (r * n + q) -ℤ pos (k * n)))
under_box k n t r q g two below inner zeros = go (cases_Bool (is_low_round k n t r q))
  where
    v : ℤ
    v = g (pos (r * n + q) -ℤ pos (k * n))

    Goal : Type 0
    Goal = v ≡ pick (is_low_round k n t r q) v

    beyond : (pos (r * n + q) -ℤ pos (k * n)) <ℤ (pos (t * n) -ℤ pos 1) → Goal
    beyond low = pick_none (is_low_round k n t r q) v (zeros (pos (r * n + q) -ℤ pos (k * n)) (inl low))

    not_first : 0 < t → Goal
    not_first some =
        let whole = times_less r n k below in
        let least = times_less 0 n t some in beyond (omega (arith, ints, whole, least, two, inner))

    not_last : (r + 1 ≡ k) ⊎ (r + 1 ≡ k → ⊥) → t ≡ 0 → is_low_round k n t r q ≡ false → Goal
    not_last (inl end) first none =
        let whole = times_up r n k end in
        let other : q + 1 ≡ n → ⊥ = λ last. grind (arith, nat_tests) in beyond (omega (arith, ints, whole, inner, other))
    not_last (inr more) first none =
        let whole = times_two r n k (omega (arith, below, more)) in beyond (omega (arith, ints, whole, inner, two))

    other_way : (t ≡ 0) ⊎ (t ≡ 0 → ⊥) → is_low_round k n t r q ≡ false → Goal
    other_way (inl first) none = not_last (cases_eq (r + 1) k) first none
    other_way (inr more) none = not_first (omega (arith, more))

    go : (is_low_round k n t r q ≡ true) ⊎ (is_low_round k n t r q ≡ false) → Goal
    go (inl is) = pick_true (is_low_round k n t r q) v is
    go (inr none) = other_way (cases_eq t 0) none

-- the place one box above
over_box : (k n t r q : ℕ) (g : ℤ → ℤ) → 2 ≤ n → t < k → ((j : ℤ) → IsBeyondTile (pos (t * n)) n j → g j ≡ pos 0)
    → g (pos (r * n + q) +ℤ pos (k * n)) ≡ pick (is_high_round k t r q) (g (pos (r * n + q) +ℤ pos (k * n)))
over_box k n t r q g two sends zeros = go (cases_Bool (is_high_round k t r q))
  where
    v : ℤ
    v = g (pos (r * n + q) +ℤ pos (k * n))

    Goal : Type 0
    Goal = v ≡ pick (is_high_round k t r q) v

    beyond : (pos (t * n) +ℤ pos n +ℤ pos 1) <ℤ (pos (r * n + q) +ℤ pos (k * n)) → Goal
    beyond high = pick_none (is_high_round k t r q) v (zeros (pos (r * n + q) +ℤ pos (k * n)) (inr high))

    not_low : (r ≡ 0) ⊎ (r ≡ 0 → ⊥) → t + 1 ≡ k → is_high_round k t r q ≡ false → Goal
    not_low (inl first) end none =
        let whole = times_up t n k end in
        let other : q < 2 → ⊥ = λ low. grind (arith, nat_tests) in beyond (omega (arith, ints, whole, other))
    not_low (inr more) end none =
        let whole = times_up t n k end in
        let least = times_less 0 n r (omega (arith, more)) in beyond (omega (arith, ints, whole, least, two))

    other_way : (t + 1 ≡ k) ⊎ (t + 1 ≡ k → ⊥) → is_high_round k t r q ≡ false → Goal
    other_way (inl end) none = not_low (cases_eq r 0) end none
    other_way (inr more) none = let whole = times_two t n k (omega (arith, sends, more)) in beyond (omega (arith, ints, whole, two))

    go : (is_high_round k t r q ≡ true) ⊎ (is_high_round k t r q ≡ false) → Goal
    go (inl is) = pick_true (is_high_round k t r q) v is
    go (inr none) = other_way (cases_eq (t + 1) k) none

-- what the layers give by the three steps adds up to the images of the place
pub one_axis : (k n t r q : ℕ) (g : ℤ → ℤ) → 2 ≤ n → t < k → r < k → q < n → ((j : ℤ) → IsBeyondTile (pos (t * n)) n j → g j ≡ pos 0)
    → sum_below 3 (axis_part k n t r g q) ≡ sum_images (k * n) g (r * n + q)
unfolding sum_below sum_images
one_axis k n t r q g two sends below inner zeros =
    let own = own_part k n t r q g below in
    let low = low_part k n t r q g sends below inner in
    let high = high_part k n t r q g sends below inner in
    let at = here n t r q g two inner zeros in
    let under = under_box k n t r q g two below inner zeros in
    let over = over_box k n t r q g two sends zeros in
    omega (arith, ints, own, low, high, at, under, over)
