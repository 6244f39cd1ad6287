-- Laws of sums over lists.
use Rattle.std.proofs.Common.{◌≡◌, ℕ, ◌+◌, ◌*◌, ◌<◌, ◌≤◌, unsigned_abs, List, [], ◌∷◌, ◌++◌, length, get_or, take, refl, ap, ◌∙◌, arith}
use Rattle.std.proofs.Math.IntN.{ℤ, ◌+ℤ◌}
use Rattle.std.proofs.lemmas.Int.{ints}
use Rattle.std.proofs.lemmas.List.{take_more}
use Rattle.pic_grid.specs.Sums.{sum_over}

-- over two lists in a row
pub sum_over-append : {A : Type 0} (f : A → ℤ) (xs ys : List A) → sum_over f (xs ++ ys) ≡ sum_over f xs +ℤ sum_over f ys
unfolding sum_over
sum_over-append f [] ys = omega (arith, ints)
sum_over-append f (x ∷ xs) ys = let h = sum_over-append f xs ys in omega (arith, ints, h)

-- over a list of one element
pub sum_over-one : {A : Type 0} (f : A → ℤ) (x : A) → sum_over f (x ∷ []) ≡ f x
unfolding sum_over
sum_over-one f x = omega (arith, ints)

-- a loop's step: one element more
pub sum_over_more : {A : Type 0} (f : A → ℤ) (xs : List A) (i : ℕ) (d : A) → i < length xs
    → sum_over f (take (i + 1) xs) ≡ sum_over f (take i xs) +ℤ f (get_or xs i d)
sum_over_more f xs i d below =
    ap (sum_over f) (take_more xs i d below)
    ∙ sum_over-append f (take i xs) (get_or xs i d ∷ [])
    ∙ ap (λ (t : ℤ). sum_over f (take i xs) +ℤ t) (sum_over-one f (get_or xs i d))

-- sums of equal numbers are equal
pub sum_over_same : {A : Type 0} (f g : A → ℤ) (xs : List A) → ((x : A) → f x ≡ g x) → sum_over f xs ≡ sum_over g xs
unfolding sum_over
sum_over_same f g [] same = refl
sum_over_same f g (x ∷ xs) same = λ i. same x i +ℤ sum_over_same f g xs same i

-- the sum of sums is the sum of both
pub sum_over_plus : {A : Type 0} (f g : A → ℤ) (xs : List A) → sum_over (λ x. f x +ℤ g x) xs ≡ sum_over f xs +ℤ sum_over g xs
unfolding sum_over
sum_over_plus f g [] = omega (arith, ints)
sum_over_plus f g (x ∷ xs) = let h = sum_over_plus f g xs in omega (arith, ints, h)

-- n numbers of at most most in size
pub sum_over_bound : {A : Type 0} (f : A → ℤ) (xs : List A) (most : ℕ) → ((x : A) → unsigned_abs (f x) ≤ most)
    → unsigned_abs (sum_over f xs) ≤ length xs * most
unfolding sum_over
sum_over_bound f [] most small = omega (arith, ints)
sum_over_bound f (x ∷ xs) most small = let h = sum_over_bound f xs most small in let k = small x in omega (arith, ints, h, k)
