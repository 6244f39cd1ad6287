-- The sum of the words is the number of steps that seats took on them.
use Rattle.std.proofs.Common.{◌≡◌, ℕ, zero, suc, ◌+◌, ◌<◌, List, [], ◌∷◌, ◌++◌, length, get_or, set, slice_index, sum, refl, sym, ap, ◌∙◌, arith}
use Rattle.std.proofs.lemmas.List.Sums.{sum_by-cons, sum_by-set, sum_by_push}
use mathlib.Core.Option.{some, some-injective}
use lib.ListN.{get_elem?}
use Rattle.pic_yard.specs.declared.view.View.{View}
use Rattle.pic_yard.specs.Rule.{steps_in}
use Rattle.pic_yard.proofs.ViewLaws.{below_there}

there_or : {A : Type 0} (xs : List A) (i : ℕ) (x : A) → get_elem? xs i ≡ some x → get_or xs i x ≡ x
there_or [] i x is = refl
there_or (y ∷ ys) zero x is = some-injective y x is
there_or (y ∷ ys) (suc i) x is = there_or ys i x is

-- one view is changed
steps_set : (views : List View) (j : ℕ) (v u : View) → get_elem? views j ≡ some v → steps_in (set views j u) + v.steps ≡ steps_in views + u.steps
steps_set views j v u is =
    ap (λ (x : View). steps_in (set views j u) + x.steps) (sym (there_or views j v is))
    ∙ sum_by-set (λ (x : View). x.steps) views j u v (below_there views j v is)

-- one word is one more, by a step of the seat j
pub one_step : (words : List ℕ) (views : List View) (i n j : ℕ) (v u : View) → sum words ≡ steps_in views → i < length words → slice_index words i ≡ n
    → get_elem? views j ≡ some v → u.steps ≡ suc v.steps → sum (set words i (suc n)) ≡ steps_in (set views j u)
one_step words views i n j v u tally below word is steps =
    let a : sum (set words i (suc n)) + slice_index words i ≡ sum words + suc n = sum_by-set (λ (x : ℕ). x) words i (suc n) 0 below in
    let b : steps_in (set views j u) + v.steps ≡ steps_in views + u.steps = steps_set views j v u is in
    omega (arith, tally, word, steps, a, b)

-- a seat makes another: no step
pub steps_split : (views : List View) (j : ℕ) (v u new : View) → get_elem? views j ≡ some v → u.steps ≡ v.steps → new.steps ≡ 0
    → steps_in views ≡ steps_in (set views j u ++ new ∷ [])
steps_split views j v u new is same none =
    let a : steps_in (set views j u) + v.steps ≡ steps_in views + u.steps = steps_set views j v u is in
    let b : steps_in (set views j u ++ new ∷ []) ≡ steps_in (set views j u) + new.steps = sum_by_push (λ (x : View). x.steps) (set views j u) new in
    omega (arith, same, none, a, b)

-- a seat takes in another, with its steps
pub steps_join : (views : List View) (j i : ℕ) (v w u spent : View) → get_elem? views j ≡ some v → get_elem? (set views j u) i ≡ some w
    → u.steps ≡ v.steps + w.steps → spent.steps ≡ 0 → steps_in views ≡ steps_in (set (set views j u) i spent)
steps_join views j i v w u spent is other both none =
    let a : steps_in (set views j u) + v.steps ≡ steps_in views + u.steps = steps_set views j v u is in
    let b : steps_in (set (set views j u) i spent) + w.steps ≡ steps_in (set views j u) + spent.steps = steps_set (set views j u) i w spent other in
    omega (arith, both, none, a, b)

-- all words are 0
pub no_step : (words : List ℕ) → ((i : ℕ) → slice_index words i ≡ 0) → sum words ≡ 0
no_step [] zeros = refl
no_step (x ∷ xs) zeros =
    let a : sum (x ∷ xs) ≡ x + sum xs = sum_by-cons (λ (y : ℕ). y) x xs in
    let b : x ≡ 0 = zeros 0 in
    let c : sum xs ≡ 0 = no_step xs (λ i. zeros (suc i)) in
    omega (arith, a, b, c)
