-- Lists with the same elements in any order: what keeps them the same.
use Rattle.std.proofs.Common.{◌≡◌, ℕ, ◌+◌, Bool, true, false, cond, List, [], ◌∷◌, ◌++◌, length}
use Rattle.std.proofs.Common.{map, filter, sum_by, All, IsPermutation, refl, sym, ap, ◌∙◌, arith}
use Rattle.std.proofs.lemmas.List.{nil_from_length}
use Rattle.std.proofs.lemmas.List.Sums.{sum_by-cons, sum_by-append}
use Rattle.std.proofs.lemmas.List.Elements.{All-head, All-tail}
use Rattle.std.proofs.lemmas.List.Sorted.{sum_by-IsPermutation}
use Rattle.pic_tile.specs.Same.{Same}
use Rattle.pic_tile.specs.Totals.{together}

-- a sum over a list that is made element by element
pub sum_by-map : {A B : Type 0} (w : B → ℕ) (f : A → B) (xs : List A) → sum_by w (map f xs) ≡ sum_by (λ x. w (f x)) xs
sum_by-map w f [] = refl
sum_by-map w f (x ∷ xs) =
    sum_by-cons w (f x) (map f xs) ∙ ap (λ n. w (f x) + n) (sum_by-map w f xs) ∙ sym (sum_by-cons (λ y. w (f y)) x xs)

-- a sum over the elements that pass a test
pub sum_by-filter : {X : Type 0} (w : X → ℕ) (p : X → Bool) (xs : List X) → sum_by w (filter p xs) ≡ sum_by (λ x. cond (p x) (w x) 0) xs
sum_by-filter w p [] = refl
sum_by-filter {X = X} w p (x ∷ xs) =
    first (p x) ∙ ap (λ n. cond (p x) (w x) 0 + n) (sum_by-filter w p xs) ∙ sym (sum_by-cons (λ y. cond (p y) (w y) 0) x xs)
  where
    first : (b : Bool) → sum_by w (cond b (x ∷ filter p xs) (filter p xs)) ≡ cond b (w x) 0 + sum_by w (filter p xs)
    first true = sum_by-cons w x (filter p xs)
    first false = omega arith

-- the sum of sums is the sum of both
pub sum_by-plus : {X : Type 0} (f g : X → ℕ) (xs : List X) → sum_by (λ x. f x + g x) xs ≡ sum_by f xs + sum_by g xs
sum_by-plus f g [] = refl
sum_by-plus f g (x ∷ xs) =
    let both = sum_by-cons (λ y. f y + g y) x xs in
    let one = sum_by-cons f x xs in
    let other = sum_by-cons g x xs in
    let rest = sum_by-plus f g xs in
    omega arith

-- weights that agree at each element have one sum
pub sum_by_agree : {X : Type 0} (f g : X → ℕ) (xs : List X) → All (λ x. f x ≡ g x) xs → sum_by f xs ≡ sum_by g xs
sum_by_agree f g [] same = refl
sum_by_agree f g (x ∷ xs) same =
    let here : f x ≡ g x = All-head (λ y. f y ≡ g y) x xs same in
    let rest = sum_by_agree f g xs (All-tail (λ y. f y ≡ g y) x xs same) in
    let one = sum_by-cons f x xs in
    let other = sum_by-cons g x xs in
    omega arith

-- a sum over lists in a row
pub sum_by-together : {X : Type 0} (w : X → ℕ) (lists : List (List X)) → sum_by w (together lists) ≡ sum_by (λ xs. sum_by w xs) lists
unfolding together
sum_by-together w [] = refl
sum_by-together w (xs ∷ lists) =
    sum_by-append w xs (together lists) ∙ ap (λ n. sum_by w xs + n) (sum_by-together w lists) ∙ sym (sum_by-cons (λ ys. sum_by w ys) xs lists)

-- a weight of 1 each counts
pub sum_by-ones : {X : Type 0} (xs : List X) → sum_by (λ x. 1) xs ≡ length xs
sum_by-ones [] = refl
sum_by-ones (x ∷ xs) = let rest = sum_by-ones xs in let one = sum_by-cons (λ y. 1) x xs in omega arith

pub same_refl : {X : Type 0} (xs : List X) → Same xs xs
same_refl xs = record { sums = λ w. refl }

pub same_is : {X : Type 0} (xs ys : List X) → xs ≡ ys → Same xs ys
same_is xs ys e = record { sums = λ w. ap (sum_by w) e }

pub same_sym : {X : Type 0} (xs ys : List X) → Same xs ys → Same ys xs
same_sym xs ys s = record { sums = λ w. sym (s.sums w) }

pub same_trans : {X : Type 0} (xs ys zs : List X) → Same xs ys → Same ys zs → Same xs zs
same_trans xs ys zs s t = record { sums = λ w. s.sums w ∙ t.sums w }

-- two parts the other way round
pub same_swap : {X : Type 0} (xs ys : List X) → Same (xs ++ ys) (ys ++ xs)
same_swap xs ys = record {
  sums = λ w. let one = sum_by-append w xs ys in let other = sum_by-append w ys xs in omega arith;
}

-- the same element in front of both
pub same_cons : {X : Type 0} (x : X) (xs ys : List X) → Same xs ys → Same (x ∷ xs) (x ∷ ys)
same_cons x xs ys s = record {
  sums = λ w. let a = s.sums w in let one = sum_by-cons w x xs in let other = sum_by-cons w x ys in omega arith;
}

-- and without it
pub same_rest : {X : Type 0} (x : X) (xs ys : List X) → Same (x ∷ xs) (x ∷ ys) → Same xs ys
same_rest x xs ys s = record {
  sums = λ w. let a = s.sums w in let one = sum_by-cons w x xs in let other = sum_by-cons w x ys in omega arith;
}

pub same_map : {A B : Type 0} (f : A → B) (xs ys : List A) → Same xs ys → Same (map f xs) (map f ys)
same_map f xs ys s = record { sums = λ w. sum_by-map w f xs ∙ s.sums (λ x. w (f x)) ∙ sym (sum_by-map w f ys) }

pub same_filter : {X : Type 0} (p : X → Bool) (xs ys : List X) → Same xs ys → Same (filter p xs) (filter p ys)
same_filter p xs ys s = record {
  sums = λ w. sum_by-filter w p xs ∙ s.sums (λ x. cond (p x) (w x) 0) ∙ sym (sum_by-filter w p ys);
}

pub same_length : {X : Type 0} (xs ys : List X) → Same xs ys → length xs ≡ length ys
same_length xs ys s = sym (sum_by-ones xs) ∙ s.sums (λ x. 1) ∙ sum_by-ones ys

pub same_none : {X : Type 0} (ys : List X) → Same [] ys → ys ≡ []
same_none ys s = nil_from_length ys (sym (same_length [] ys s))

-- a list with its elements exchanged
pub permuted_same : {X : Type 0} (xs ys : List X) → IsPermutation xs ys → Same xs ys
permuted_same xs ys p = record { sums = λ w. sym (sum_by-IsPermutation w xs ys p) }
