-- Sums in any order, over lists in a row, and where one number of many changes.
use Rattle.std.proofs.Common.{◌≡◌, ℕ, zero, suc, ◌+◌, ◌<◌, List, [], ◌∷◌, ◌++◌, length, get_or, take, sum_by, flat_map, refl, sym, ap, ◌∙◌, arith}
use Rattle.std.specs.List.{range_with_len}
use Rattle.std.proofs.Math.Decide.{ℕ_discrete}
use Rattle.std.proofs.Math.IntN.{ℤ, pos, negsuc, ◌+ℤ◌, ◌-ℤ◌}
use Rattle.std.proofs.lemmas.Int.{ints}
use Rattle.std.proofs.lemmas.List.{take_more, append-nil}
use Rattle.std.proofs.lemmas.List.Concat.{flat_map-append}
use Rattle.std.proofs.lemmas.List.Sums.{sum_by-cons, sum_by-append}
use Rattle.pic_grid.specs.Sums.{sum_over, sum_below}
use Rattle.pic_grid.proofs.SumLaws.{sum_same}
use Rattle.pic_tile.specs.Same.{Same}
use Rattle.pic_tile.specs.Totals.{total_below, together}

-- a whole number is what it is over 0 less what it is under 0
abbrev over : ℤ → ℕ
over (pos n) = n
over (negsuc n) = 0

abbrev under : ℤ → ℕ
under (pos n) = 0
under (negsuc n) = suc n

over_under : (v : ℤ) → v ≡ pos (over v) -ℤ pos (under v)
over_under (pos n) = omega (arith, ints)
over_under (negsuc n) = omega (arith, ints)

-- so a sum is the difference of two sums of natural numbers
sum_over_is : {X : Type 0} (f : X → ℤ) (xs : List X) → sum_over f xs ≡ pos (sum_by (λ x. over (f x)) xs) -ℤ pos (sum_by (λ x. under (f x)) xs)
unfolding sum_over
sum_over_is f [] = omega (arith, ints)
sum_over_is f (x ∷ xs) =
    let rest = sum_over_is f xs in
    let here = over_under (f x) in
    let high = sum_by-cons (λ y. over (f y)) x xs in
    let low = sum_by-cons (λ y. under (f y)) x xs in
    omega (arith, ints)

pub sum_over_any_order : {X : Type 0} (f : X → ℤ) (xs ys : List X) → Same xs ys → sum_over f xs ≡ sum_over f ys
sum_over_any_order f xs ys s =
    let high = s.sums (λ x. over (f x)) in
    let low = s.sums (λ x. under (f x)) in
    let one = sum_over_is f xs in
    let other = sum_over_is f ys in
    omega (arith, ints)

pub together-append : {X : Type 0} (xss yss : List (List X)) → together (xss ++ yss) ≡ together xss ++ together yss
unfolding together
together-append xss yss = flat_map-append (λ xs. xs) xss yss

pub together-one : {X : Type 0} (xs : List X) → together (xs ∷ []) ≡ xs
unfolding together
together-one xs = append-nil xs

-- a loop's step: one list more
pub together_more : {X : Type 0} (xss : List (List X)) (i : ℕ) → i < length xss → together (take (i + 1) xss) ≡ together (take i xss) ++ get_or xss i []
together_more xss i below =
    ap together (take_more xss i [] below)
    ∙ together-append (take i xss) (get_or xss i [] ∷ [])
    ∙ ap (λ ys. together (take i xss) ++ ys) (together-one (get_or xss i []))

-- totals of equal numbers are equal
pub total_same : (n : ℕ) (f g : ℕ → ℕ) → ((j : ℕ) → j < n → f j ≡ g j) → total_below n f ≡ total_below n g
unfolding total_below
total_same zero f g same = refl
total_same (suc n) f g same = λ i. total_same n f g (λ j below. same j (omega (arith, below))) i + same n (omega arith) i

pub total_plus : (n : ℕ) (f g : ℕ → ℕ) → total_below n (λ j. f j + g j) ≡ total_below n f + total_below n g
unfolding total_below
total_plus zero f g = refl
total_plus (suc n) f g = let h = total_plus n f g in omega (arith, h)

pub total_none : (n : ℕ) → total_below n (λ j. 0) ≡ 0
unfolding total_below
total_none zero = refl
total_none (suc n) = let h = total_none n in omega (arith, h)

-- the total with one number more
pub total_below_more : (f : ℕ → ℕ) (n : ℕ) → total_below (n + 1) f ≡ total_below n f + f n
unfolding total_below
total_below_more f n = ap (λ m. total_below m f) (let e : n + 1 ≡ suc n = omega arith in e)

-- where the number at k alone changes from f k to g k, so does the total
pub total_changed : (n k : ℕ) (f g : ℕ → ℕ) → k < n → ((j : ℕ) → j < n → (j ≡ k → ⊥) → f j ≡ g j)
    → total_below n g + f k ≡ total_below n f + g k
unfolding total_below
total_changed zero k f g below same = absurd (omega (arith, below))
total_changed (suc n) k f g below same =
    elim (ℕ_discrete k n) [
      | yes here ↦ (
          let rest : total_below n f ≡ total_below n g =
          total_same n f g (λ j inside. same j (omega (arith, inside)) (λ e. absurd (omega (arith, inside, e, here)))) in
          let old : f k ≡ f n = ap f here in
          let new : g k ≡ g n = ap g here in
          omega (arith, rest, old, new)
          )
      | no other ↦ (
          let before : k < n = omega (arith, other, below) in
          let rest = total_changed n k f g before (λ j inside apart. same j (omega (arith, inside)) apart) in
          let last : f n ≡ g n = same n (omega arith) (λ e. other (sym e)) in
          omega (arith, rest, last)
          )
    ]

pub sum_changed : (n k : ℕ) (f g : ℕ → ℤ) → k < n → ((j : ℕ) → j < n → (j ≡ k → ⊥) → f j ≡ g j)
    → sum_below n g +ℤ f k ≡ sum_below n f +ℤ g k
unfolding sum_below
sum_changed zero k f g below same = absurd (omega (arith, below))
sum_changed (suc n) k f g below same =
    elim (ℕ_discrete k n) [
      | yes here ↦ (
          let rest : sum_below n f ≡ sum_below n g =
          sum_same n f g (λ j inside. same j (omega (arith, inside)) (λ e. absurd (omega (arith, inside, e, here)))) in
          let old : f k ≡ f n = ap f here in
          let new : g k ≡ g n = ap g here in
          omega (arith, ints, rest, old, new)
          )
      | no other ↦ (
          let before : k < n = omega (arith, other, below) in
          let rest = sum_changed n k f g before (λ j inside apart. same j (omega (arith, inside)) apart) in
          let last : f n ≡ g n = same n (omega arith) (λ e. other (sym e)) in
          omega (arith, ints, rest, last)
          )
    ]

pub sum_none : (n : ℕ) → sum_below n (λ j. pos 0) ≡ pos 0
unfolding sum_below
sum_none zero = refl
sum_none (suc n) = let h = sum_none n in omega (arith, ints, h)

-- the total where all numbers but one are 0
pub one_total : (n k : ℕ) (f : ℕ → ℕ) → k < n → ((j : ℕ) → j < n → (j ≡ k → ⊥) → f j ≡ 0) → total_below n f ≡ f k
one_total n k f below zeros =
    let changed = total_changed n k f (λ j. 0) below zeros in
    let none = total_none n in
    omega (arith, changed, none)

-- sums over a list and over numbers, the one inside the other
pub total-sum_by : {X : Type 0} (n : ℕ) (f : ℕ → X → ℕ) (xs : List X)
    → total_below n (λ d. sum_by (f d) xs) ≡ sum_by (λ x. total_below n (λ d. f d x)) xs
total-sum_by n f [] = total_none n
total-sum_by n f (x ∷ xs) =
    let split : total_below n (λ d. sum_by (f d) (x ∷ xs)) ≡ total_below n (λ d. f d x + sum_by (f d) xs) =
    λ i. total_below n (λ d. sum_by-cons (f d) x xs i) in
    let both = total_plus n (λ d. f d x) (λ d. sum_by (f d) xs) in
    let rest = total-sum_by n f xs in
    let all = sum_by-cons (λ y. total_below n (λ d. f d y)) x xs in
    omega (arith, split, both, rest, all)

zero_plus : (n : ℕ) → 0 + n ≡ n
zero_plus n = omega arith

-- the weight of one element
pub sum_by-one : {X : Type 0} (w : X → ℕ) (x : X) → sum_by w (x ∷ []) ≡ w x
sum_by-one w x = let e = sum_by-cons w x [] in omega (arith, e)

-- a weight of lists, one for each number, in a row
pub sum_by-flat_map : {X : Type 0} (w : X → ℕ) (lists : ℕ → List X) (n : ℕ)
    → sum_by w (flat_map lists (range_with_len 0 n)) ≡ total_below n (λ d. sum_by w (lists d))
unfolding total_below
sum_by-flat_map {X = X} w lists n =
    let none : sum_by w (flat_map lists (range_with_len 0 n)) ≡ sum_by w (flat_map lists (range_with_len 0 n)) + 0 = omega arith in
    none ∙ from n 0 ∙ ap (λ m. total_below m (λ d. sum_by w (lists d))) (let e : 0 + n ≡ n = omega arith in e)
  where
    from : (m s : ℕ) → sum_by w (flat_map lists (range_with_len s m)) + total_below s (λ d. sum_by w (lists d)) ≡ total_below (s + m) (λ d. sum_by w (lists d))
    from zero s = zero_plus (total_below s (λ d. sum_by w (lists d))) ∙ ap (λ k. total_below k (λ d. sum_by w (lists d))) (let e : s ≡ s + 0 = omega arith in e)
    from (suc m) s =
        let both = sum_by-append w (lists s) (flat_map lists (range_with_len (s + 1) m)) in
        let more = total_below_more (λ d. sum_by w (lists d)) s in
        let rest = from m (s + 1) in
        let along : total_below (s + 1 + m) (λ d. sum_by w (lists d)) ≡ total_below (s + suc m) (λ d. sum_by w (lists d)) =
        ap (λ k. total_below k (λ d. sum_by w (lists d))) (let e : s + 1 + m ≡ s + suc m = omega arith in e) in
        omega (arith, both, more, rest, along)
