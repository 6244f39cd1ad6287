-- The weights of a point on a periodic axis: two of them are above 0, those of the two nodes next to
-- it, and they add up to the side of a cell.
use Rattle.std.proofs.Common.{◌≡◌, ℕ, zero, suc, ◌+◌, ◌-◌, ◌*◌, ◌/◌, ◌%◌, ◌<◌, ◌≤◌, ◌⊎◌, ◌∙◌, ap, sym, refl, inl, inr, arith}
use Rattle.std.proofs.Math.IntN.{pos, ◌+ℤ◌}
use Rattle.std.proofs.Math.Nat.{mul-le-mul_right, mod_self, mod-eq_of_lt}
use Rattle.std.proofs.lemmas.Bool.{cases_lt}
use Rattle.std.proofs.lemmas.Bool.Decides.{nat_tests}
use Rattle.std.proofs.lemmas.Int.{ints}
use Rattle.std.proofs.lemmas.Nat.{mod_below, div_below, div-add-mod'}
use Rattle.pic_grid.specs.Hat.{periodic_hat, only_at}
use Rattle.pic_grid.specs.Sums.{sum_below}
use Rattle.pic_grid.proofs.SumLaws.{sum_same, sum_plus}

pub only_same : (i v j : ℕ) → j ≡ i → only_at i v j ≡ v
only_same i v j is = grind (arith, nat_tests)

pub only_below : (i v j : ℕ) → j < i → only_at i v j ≡ 0
only_below i v j is = grind (arith, nat_tests)

pub only_above : (i v j : ℕ) → i < j → only_at i v j ≡ 0
only_above i v j is = grind (arith, nat_tests)

-- a number that isn't reached adds nothing
sum_before : (n i v : ℕ) → n ≤ i → sum_below n (λ j. pos (only_at i v j)) ≡ pos 0
unfolding sum_below
sum_before zero i v most = refl
sum_before (suc n) i v most = λ k. sum_before n i v (omega (arith, most)) k +ℤ pos (only_below i v n (omega (arith, most)) k)

-- the sum of a lone number is that number
pub sum_only : (n i v : ℕ) → i < n → sum_below n (λ j. pos (only_at i v j)) ≡ pos v
unfolding sum_below
sum_only zero i v below = absurd (omega (arith, below))
sum_only (suc n) i v below = go (sum_only n i v) (cases_lt i n)
  where
    go : (i < n → sum_below n (λ j. pos (only_at i v j)) ≡ pos v)
        → (i < n) ⊎ (n ≤ i)
        → sum_below n (λ j. pos (only_at i v j)) +ℤ pos (only_at i v n) ≡ pos v
    go before_is (inl less) =
        let before = before_is less in
        let here = only_above i v n less in omega (arith, ints, before, here)
    go before_is (inr not_less) =
        let before = sum_before n i v not_less in
        let here = only_same i v n (omega (arith, below, not_less)) in omega (arith, ints, before, here)

-- a weight is at most the side of a cell
pub hat_most : (side len p g : ℕ) → periodic_hat side len p g ≤ side
unfolding periodic_hat
hat_most side len p g = omega arith

-- The weight of a point p = a + r, with r below the side s, on an axis of length c, where a is the
-- coordinate of the node below the point.

-- for the node below it
at_low : (s r a b c p : ℕ) → r < s → s + s ≤ c → p ≡ a + r → b ≡ a → periodic_hat s c p b ≡ s - r
unfolding periodic_hat
at_low s r a b c p small two is same = omega (arith, small, two, is, same)

-- for the next node
at_high : (s r a b c p : ℕ) → r < s → s + s ≤ c → p ≡ a + r → b ≡ a + s → periodic_hat s c p b ≡ r
unfolding periodic_hat
at_high s r a b c p small two is next = omega (arith, small, two, is, next)

-- for the next node, the first of the axis
at_first : (s r a b c p : ℕ) → r < s → s + s ≤ c → p ≡ a + r → c ≡ a + s → b ≡ 0 → periodic_hat s c p b ≡ r
unfolding periodic_hat
at_first s r a b c p small two is last first = omega (arith, small, two, is, last, first)

-- for a node further up
far_up : (s r a b c p : ℕ) → r < s → p ≡ a + r → a + s + s ≤ b → b + s ≤ c → periodic_hat s c p b ≡ 0
unfolding periodic_hat
far_up s r a b c p small is up inside = omega (arith, small, is, up, inside)

-- for a node further down
far_down : (s r a b c p : ℕ) → r < s → p ≡ a + r → b + s ≤ a → a + s + s ≤ c → periodic_hat s c p b ≡ 0
unfolding periodic_hat
far_down s r a b c p small is down inside = omega (arith, small, is, down, inside)

-- for a node further down, from the last cell
far_down_last : (s r a b c p : ℕ) → r < s → p ≡ a + r → b + s ≤ a → c ≡ a + s → s ≤ b → periodic_hat s c p b ≡ 0
unfolding periodic_hat
far_down_last s r a b c p small is down last above = omega (arith, small, is, down, last, above)

-- an index times the side, one or two places on
pub times_one : (s i j : ℕ) → i + 1 ≤ j → i * s + s ≤ j * s
times_one s i j more = let h = mul-le-mul_right s more in omega (arith, h)

times_two : (s i j : ℕ) → i + 2 ≤ j → i * s + s + s ≤ j * s
times_two s i j more = let h = mul-le-mul_right s more in omega (arith, h)

-- an axis of at least two cells is at least two sides long
pub two_sides : (s n : ℕ) → 2 ≤ n → s + s ≤ n * s
two_sides s n two = let h = mul-le-mul_right s two in omega (arith, h)

-- the weights of a point that isn't in the last cell
inner_hats : (s n i r j : ℕ) → r < s → 2 ≤ n → i + 1 < n → j < n
    → periodic_hat s (n * s) (i * s + r) (j * s) ≡ only_at i (s - r) j + only_at (i + 1) r j
inner_hats s n i r j small two inner within = go (cases_lt j i) (cases_lt i j) (cases_lt (i + 1) j)
  where
    go : (j < i) ⊎ (i ≤ j) → (i < j) ⊎ (j ≤ i) → (i + 1 < j) ⊎ (j ≤ i + 1)
        → periodic_hat s (n * s) (i * s + r) (j * s) ≡ only_at i (s - r) j + only_at (i + 1) r j
    go (inl under) v w =
        let down = times_one s j i (omega (arith, under)) in
        let inside = times_two s i n (omega (arith, inner)) in
        let hat = far_down s r (i * s) (j * s) (n * s) (i * s + r) small refl down inside in
        let first = only_below i (s - r) j under in
        let second = only_below (i + 1) r j (omega (arith, under)) in omega (arith, hat, first, second)
    go (inr above) (inr upto) w =
        let is : j ≡ i = omega (arith, above, upto) in
        let hat = at_low s r (i * s) (j * s) (n * s) (i * s + r) small (two_sides s n two) refl (ap (λ t. t * s) is) in
        let first = only_same i (s - r) j is in
        let second = only_below (i + 1) r j (omega (arith, upto)) in omega (arith, hat, first, second)
    go (inr above) (inl over) (inr upto) =
        let is : j ≡ i + 1 = omega (arith, over, upto) in
        let next : j * s ≡ i * s + s = ap (λ t. t * s) is ∙ omega arith in
        let hat = at_high s r (i * s) (j * s) (n * s) (i * s + r) small (two_sides s n two) refl next in
        let first = only_above i (s - r) j over in
        let second = only_same (i + 1) r j is in omega (arith, hat, first, second)
    go (inr above) (inl over) (inl beyond) =
        let up = times_two s i j (omega (arith, beyond)) in
        let inside = times_one s j n (omega (arith, within)) in
        let hat = far_up s r (i * s) (j * s) (n * s) (i * s + r) small refl up inside in
        let first = only_above i (s - r) j over in
        let second = only_above (i + 1) r j beyond in omega (arith, hat, first, second)

-- the weights of a point in the last cell
last_hats : (s n i r j : ℕ) → r < s → 2 ≤ n → n ≡ i + 1 → j < n
    → periodic_hat s (n * s) (i * s + r) (j * s) ≡ only_at i (s - r) j + only_at 0 r j
last_hats s n i r j small two last within = go (cases_lt j i) (cases_lt 0 j)
  where
    ends : n * s ≡ i * s + s
    ends = ap (λ t. t * s) last ∙ omega arith

    go : (j < i) ⊎ (i ≤ j) → (0 < j) ⊎ (j ≤ 0)
        → periodic_hat s (n * s) (i * s + r) (j * s) ≡ only_at i (s - r) j + only_at 0 r j
    go (inr above) v =
        let is : j ≡ i = omega (arith, above, within, last) in
        let hat = at_low s r (i * s) (j * s) (n * s) (i * s + r) small (two_sides s n two) refl (ap (λ t. t * s) is) in
        let first = only_same i (s - r) j is in
        let second = only_above 0 r j (omega (arith, above, two, last)) in omega (arith, hat, first, second)
    go (inl under) (inl over) =
        let down = times_one s j i (omega (arith, under)) in
        let above = times_one s 0 j (omega (arith, over)) in
        let hat = far_down_last s r (i * s) (j * s) (n * s) (i * s + r) small refl down ends (omega (arith, above)) in
        let first = only_below i (s - r) j under in
        let second = only_above 0 r j over in omega (arith, hat, first, second)
    go (inl under) (inr none) =
        let is : j ≡ 0 = omega (arith, none) in
        let zero_there : j * s ≡ 0 = ap (λ t. t * s) is ∙ omega arith in
        let hat = at_first s r (i * s) (j * s) (n * s) (i * s + r) small (two_sides s n two) refl ends zero_there in
        let first = only_below i (s - r) j under in
        let second = only_same 0 r j is in omega (arith, hat, first, second)

-- the weights of the point i * s + r are those of the two nodes i and i + 1, modulo the nodes
pub two_hats : (s n i r j : ℕ) → r < s → 2 ≤ n → i < n → j < n
    → periodic_hat s (n * s) (i * s + r) (j * s) ≡ only_at i (s - r) j + only_at ((i + 1) % n) r j
two_hats s n i r j small two below within = split (cases_lt (i + 1) n)
  where
    split : (i + 1 < n) ⊎ (n ≤ i + 1)
        → periodic_hat s (n * s) (i * s + r) (j * s) ≡ only_at i (s - r) j + only_at ((i + 1) % n) r j
    split (inl inner) =
        inner_hats s n i r j small two inner within
        ∙ ap (λ k. only_at i (s - r) j + only_at k r j) (sym (mod-eq_of_lt inner))
    split (inr upto) =
        let last : n ≡ i + 1 = omega (arith, upto, below) in
        let none : (i + 1) % n ≡ 0 = ap (λ t. t % n) (sym last) ∙ mod_self n in
        last_hats s n i r j small two last within
        ∙ ap (λ k. only_at i (s - r) j + only_at k r j) (sym none)

-- the weights of a point for all nodes of an axis add up to the side of a cell
pub hats_add_up : (side n p : ℕ)
    → 0 < side
    → 2 ≤ n
    → p < n * side
    → sum_below n (λ i. pos (periodic_hat side (n * side) p (i * side))) ≡ pos side
hats_add_up s n p some two inside =
    let i : ℕ = p / s in
    let r : ℕ = p % s in
    let k : ℕ = (i + 1) % n in
    let small : r < s = mod_below p s some in
    let is : p ≡ i * s + r = sym (div-add-mod' p s) in
    let below : i < n = div_below p s n some inside in
    let next : k < n = mod_below (i + 1) n (omega (arith, two)) in
    ap (λ q. sum_below n (λ j. pos (periodic_hat s (n * s) q (j * s)))) is
    ∙ sum_same n (λ j. pos (periodic_hat s (n * s) (i * s + r) (j * s)))
    (λ j. pos (only_at i (s - r) j) +ℤ pos (only_at k r j))
    (λ j within. ap pos (two_hats s n i r j small two below within))
    ∙ sum_plus n (λ j. pos (only_at i (s - r) j)) (λ j. pos (only_at k r j))
    ∙ (λ t. sum_only n i (s - r) below t +ℤ sum_only n k r next t)
    ∙ ap pos (omega (arith, small))
