-- The elements of an array beside the items that it stands for.
use Rattle.std.proofs.Common.{◌≡◌, ◌≢◌, ℕ, suc, ◌+◌, ◌<◌, ◌≤◌, ◌==◌, List, [], ◌∷◌, ◌++◌, length, get_or, set}
use Rattle.std.proofs.Common.{take, drop, ℤ, pos, unsigned_abs, map, Ok, Err, refl, ap, true, false, arith}
use Rattle.std.proofs.lemmas.Bool.Decides.{nat_tests}
use Rattle.std.proofs.lemmas.List.{drop_all, length-take-le, get_or-set_same, get_or-set_other}
use borrow.Author.Count.{below_more}
use Rattle.toml.specs.Data.{Data}
use Rattle.toml.specs.View.{view, items_view}
use Rattle.toml.specs.declared.value.Value.{Value}
use Rattle.toml.proofs.Views.{items_view-drop}
use Rattle.pic_walk.specs.declared.fault.Fault.TheVariants.{Kind}
use Rattle.pic_walk.specs.declared.limits.Limits.{Limits}
use Rattle.pic_walk.specs.Path.{element_at}
use Rattle.pic_walk.specs.Limits.{MeetsLimits, limits_at}
use Rattle.pic_walk.specs.Walk.{Walked, ◌>>=◌, count_of_items, of_length, each, limited, number_at}

pub count_of_items-view : (vs : List Value) → count_of_items (items_view vs) ≡ length vs
count_of_items-view [] = refl
count_of_items-view (v ∷ vs) = ap suc (count_of_items-view vs)

pub right_length : (n : ℕ) (path : List ℕ) (vs : List Value) → length vs ≡ n → of_length n path (items_view vs) ≡ Ok (items_view vs)
unfolding of_length
right_length n path vs e =
    let same : (count_of_items (items_view vs) == n) ≡ true = rw (count_of_items-view vs) (grind (arith, nat_tests)) in
    rw same

pub wrong_length : (n : ℕ) (path : List ℕ) (vs : List Value) → length vs ≢ n → of_length n path (items_view vs) ≡ Err (Kind path)
unfolding of_length
wrong_length n path vs e =
    let other : (count_of_items (items_view vs) == n) ≡ false = rw (count_of_items-view vs) (grind (arith, nat_tests)) in
    rw other

-- the next element, and then those after it
pub each_at : {A : Type 0} (f : List A → List ℕ → Data → Walked A) (path : List ℕ) (done : List A) (vs : List Value) (i : ℕ) (d : Value) → i < length vs
    → each f path done (items_view (drop i vs)) ≡ f done (element_at path (length done)) (view (get_or vs i d))
    >>= (λ a. each f path (done ++ a ∷ []) (items_view (drop (i + 1) vs)))
unfolding each
each_at f path done vs i d h = rw (items_view-drop vs i d h)

-- no element is left
pub each_out : {A : Type 0} (f : List A → List ℕ → Data → Walked A) (path : List ℕ) (done : List A) (vs : List Value) (i : ℕ) → length vs ≤ i
    → each f path done (items_view (drop i vs)) ≡ Ok done
unfolding each
each_out f path done vs i h = rw (drop_all i vs h)

-- the next number of an array
pub next_number : (limits : List Limits) (path : List ℕ) (ns : List ℤ) (vs : List Value) (i : ℕ) (d : Value) → i < length vs → i ≤ length ns
    → each (number_at limits) path (take i ns) (items_view (drop i vs))
    ≡ limited (limits_at limits i) (element_at path i) (view (get_or vs i d))
    >>= (λ a. each (number_at limits) path (take i ns ++ a ∷ []) (items_view (drop (i + 1) vs)))
unfolding number_at
next_number limits path ns vs i d h room =
    let same : length (take i ns) ≡ i = length-take-le i ns room in
    let step = each_at (number_at limits) path (take i ns) vs i d h in
    rw same at step

-- one more number is within its limits
pub more_in_limits : (limits : List Limits) (ns : List ℤ) (i : ℕ) (z : ℤ) → i < length ns
    → ((k : ℕ) → k < i → MeetsLimits (limits_at limits k) (get_or ns k (pos 0))) → MeetsLimits (limits_at limits i) z
    → (k : ℕ) → k < i + 1 → MeetsLimits (limits_at limits k) (get_or (set ns i z) k (pos 0))
more_in_limits limits ns i z room below here =
    below_more (λ k. MeetsLimits (limits_at limits k) (get_or (set ns i z) k (pos 0))) i
    (λ k h. let other : k ≢ i = (λ e. omega (arith, e)) in rw (get_or-set_other ns i k z (pos 0) other) (below k h))
    (rw (get_or-set_same ns i z (pos 0) room) here)

-- three numbers, one by one
pub three_items : (zs : List ℤ) → length zs ≡ 3 → unsigned_abs (get_or zs 0 (pos 0)) ∷ unsigned_abs (get_or zs 1 (pos 0)) ∷ unsigned_abs
    (get_or zs 2 (pos 0)) ∷ [] ≡ map unsigned_abs zs
three_items [] e = absurd (omega (arith, e))
three_items (a ∷ []) e = absurd (omega (arith, e))
three_items (a ∷ b ∷ []) e = absurd (omega (arith, e))
three_items (a ∷ b ∷ c ∷ []) e = refl
three_items (a ∷ b ∷ c ∷ d ∷ zs) e = absurd (omega (arith, e))
