-- Lists of elements that can be told apart: the same in any order is a permutation.
use Rattle.std.proofs.Common.{◌≡◌, ℕ, zero, suc, ◌+◌, ◌<◌, List, [], ◌∷◌, length, get_or, remove}
use Rattle.std.proofs.Common.{sum_by, All, Contains, IsPermutation, refl, sym, ap, ◌∙◌, subst, arith}
use Rattle.std.proofs.Math.Decide.{ℕ_discrete}
use Rattle.std.proofs.Math.IntN.{ℤ_discrete}
use Rattle.std.proofs.lemmas.List.Sums.{sum_by-cons}
use Rattle.std.proofs.lemmas.List.Elements.{All-contains, Contains-get_or}
use Rattle.std.proofs.lemmas.List.Sorted.{IsPermutation-refl, IsPermutation-sym, IsPermutation-cons, IsPermutation-remove, IsPermutation-trans}
use mathlib.Core.HLevel.{Discrete}
use Rattle.pic_num.specs.declared.motion.Particle.{Particle}
use Rattle.pic_tile.specs.Same.{Same}
use Rattle.pic_tile.proofs.SameLaws.{same_sym, same_trans, same_rest, same_none, permuted_same}

pub list_discrete : {X : Type 0} → Discrete X → Discrete (List X)
list_discrete d [] [] = yes refl
list_discrete d [] (y ∷ ys) = no (λ e. cc)
list_discrete d (x ∷ xs) [] = no (λ e. cc)
list_discrete d (x ∷ xs) (y ∷ ys) =
    elim (d x y) [
      | yes head ↦ elim (list_discrete d xs ys) [
        | yes tail ↦ yes (λ i. head i ∷ tail i)
        | no other ↦ no (λ e. other (cc))
      ]
      | no other ↦ no (λ e. other (cc))
    ]

pub particle_discrete : Discrete Particle
particle_discrete p q =
    elim (ℕ_discrete p.id q.id) [
      | yes a ↦ elim (ℕ_discrete p.species q.species) [
        | yes b ↦ elim (list_discrete ℕ_discrete p.x q.x) [
          | yes c ↦ elim (list_discrete ℤ_discrete p.v q.v) [
            | yes d ↦ yes (λ i. record { id = a i; species = b i; x = c i; v = d i })
            | no other ↦ no (λ e. other (ap (λ (r : Particle). r.v) e))
          ]
          | no other ↦ no (λ e. other (ap (λ (r : Particle). r.x) e))
        ]
        | no other ↦ no (λ e. other (ap (λ (r : Particle). r.species) e))
      ]
      | no other ↦ no (λ e. other (ap (λ (r : Particle). r.id) e))
    ]

-- 1 at one element, 0 at all others
abbrev pub counted : {X : Type 0} → Discrete X → X → X → ℕ
counted d a x = elim (d x a) [
  | yes e ↦ 1
  | no other ↦ 0
]

pub counted_itself : {X : Type 0} (d : Discrete X) (a : X) → counted d a a ≡ 1
counted_itself {X = X} d a = at (d a a)
  where
    at : (h : Dec (a ≡ a)) → elim h as (λ k. ℕ) [ yes e ↦ 1 | no other ↦ 0 ] ≡ 1
    at (yes e) = refl
    at (no other) = absurd (other refl)

pub counted_is : {X : Type 0} (d : Discrete X) (a x : X) → 0 < counted d a x → x ≡ a
counted_is {X = X} d a x = at (d x a)
  where
    at : (h : Dec (x ≡ a)) → 0 < elim h as (λ k. ℕ) [ yes e ↦ 1 | no other ↦ 0 ] → x ≡ a
    at (yes e) some = e
    at (no other) some = absurd (omega (arith, some))

-- an element is in a list where it counts
in_counted : {X : Type 0} (d : Discrete X) (a : X) (xs : List X) (k : ℕ) → k < length xs → get_or xs k a ≡ a → 0 < sum_by (counted d a) xs
in_counted d a [] k below is = absurd (omega (arith, below))
in_counted d a (x ∷ xs) zero below is =
    let here : counted d a x ≡ 1 = ap (counted d a) is ∙ counted_itself d a in
    let all = sum_by-cons (counted d a) x xs in
    omega (arith, here, all)
in_counted d a (x ∷ xs) (suc k) below is =
    let rest = in_counted d a xs k (omega (arith, below)) is in
    let all = sum_by-cons (counted d a) x xs in
    omega (arith, rest, all)

counted_in : {X : Type 0} (d : Discrete X) (a : X) (xs : List X) → 0 < sum_by (counted d a) xs → Contains xs a
counted_in d a [] some = absurd (omega (arith, some))
counted_in {X = X} d a (x ∷ xs) some = at (d x a) (counted_in d a xs) (subst (λ (n : ℕ). 0 < n) (sum_by-cons (counted d a) x xs) some)
  where
    at : (h : Dec (x ≡ a)) → (0 < sum_by (counted d a) xs → Contains xs a)
        → 0 < elim h as (λ k. ℕ) [ yes e ↦ 1 | no other ↦ 0 ] + sum_by (counted d a) xs → Contains (x ∷ xs) a
    at (yes e) rest more = (0, omega arith, e)
    at (no other) rest more =
        let there = rest (omega (arith, more)) in
        let below = there.1 in
        (suc there.0, omega (arith, below), there.2)

-- an element of one is an element of the other
pub contains_same : {X : Type 0} → Discrete X → (xs ys : List X) (x : X) → Same xs ys → Contains xs x → Contains ys x
contains_same d xs ys x s there =
    counted_in d x ys (subst (λ (n : ℕ). 0 < n) (s.sums (counted d x)) (in_counted d x xs there.0 there.1 there.2))

-- what holds of each of one holds of each of the other
pub all_same : {X : Type 0} → Discrete X → (P : X → Type 0) (xs ys : List X) → Same xs ys → All P xs → All P ys
all_same d P xs ys s all k e below =
    All-contains P xs (get_or ys k e) all (contains_same d ys xs (get_or ys k e) (same_sym xs ys s) (Contains-get_or ys k e below))

-- the same in any order, and a permutation
pub permutes : {X : Type 0} → Discrete X → (xs ys : List X) → Same xs ys → IsPermutation xs ys
permutes d [] ys s = subst (λ zs. IsPermutation [] zs) (sym (same_none ys s)) (IsPermutation-refl [])
permutes d (x ∷ xs) ys s =
    let there = contains_same d (x ∷ xs) ys x s (0, omega arith, refl) in
    let out : IsPermutation ys (x ∷ remove ys there.0) = IsPermutation-remove ys there.0 x there.1 (sym there.2) in
    let rest : Same xs (remove ys there.0) =
    same_rest x xs (remove ys there.0) (same_trans (x ∷ xs) ys (x ∷ remove ys there.0) s (permuted_same ys (x ∷ remove ys there.0) out)) in
    IsPermutation-trans (x ∷ xs) (x ∷ remove ys there.0) ys
    (IsPermutation-cons x xs (remove ys there.0) (permutes d xs (remove ys there.0) rest))
    (IsPermutation-sym ys (x ∷ remove ys there.0) out)
