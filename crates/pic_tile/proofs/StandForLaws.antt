-- Particles shared out over owners: all chains together, and one particle more.
use Rattle.std.proofs.Common.{◌≡◌, ℕ, suc, ◌+◌, ◌<◌, Bool, true, false, cond, nat_eq, nat_lt, nat_le, ◌&&◌, List, [], ◌∷◌, ◌++◌}
use Rattle.std.proofs.Common.{length, get_or, filter, sum_by, All, refl, sym, ap, ◌∙◌, subst, arith, append-nil, eq-eqb, ne_eqb}
use Rattle.std.proofs.lemmas.Bool.Decides.{nat_tests}
use Rattle.std.proofs.lemmas.List.Elements.{All-weaker, filter-append}
use Rattle.std.proofs.lemmas.List.Sums.{sum_by-cons}
use Rattle.pic_num.specs.declared.motion.Particle.{Particle}
use Rattle.pic_tile.specs.Same.{Same}
use Rattle.pic_tile.specs.Totals.{together, total_below}
use Rattle.pic_tile.specs.InOrder.{in_order, AreOrdered}
use Rattle.pic_tile.specs.StandFor.{owned, StandFor}
use Rattle.pic_tile.proofs.SameLaws.{sum_by-filter, sum_by-plus, sum_by_agree, sum_by-together}
use Rattle.pic_tile.proofs.SumLaws.{total-sum_by, one_total}
use Rattle.pic_tile.proofs.InOrderLaws.{in_order_is}

-- a particle whose owner is one of n from s on
abbrev among : ℕ → ℕ → ℕ → Bool
among s n k = nat_le s k && nat_lt k (s + n)

one_more : (s n k v : ℕ) → cond (nat_eq k s) v 0 + cond (among (s + 1) n k) v 0 ≡ cond (among s (suc n) k) v 0
one_more s n k v = grind (arith, nat_tests)

in_all : (n k v : ℕ) → k < n → cond (among 0 n k) v 0 ≡ v
in_all n k v below = grind (arith, nat_tests)

in_none : (s k v : ℕ) → cond (among s 0 k) v 0 ≡ 0
in_none s k v = grind (arith, nat_tests)

sum_by-none : {X : Type 0} (f : X → ℕ) (xs : List X) → ((x : X) → f x ≡ 0) → sum_by f xs ≡ 0
sum_by-none f [] none = refl
sum_by-none f (x ∷ xs) none =
    let rest = sum_by-none f xs none in
    let here = none x in
    let all = sum_by-cons f x xs in
    omega (arith, rest, here, all)

-- chains of the owners from s on, together
together_from : (w : Particle → ℕ) (own : Particle → ℕ) (xs : List Particle) (chains : List (List Particle)) (s : ℕ)
    → ((t : ℕ) → t < length chains → Same (get_or chains t []) (owned own (s + t) xs))
    → sum_by (λ c. sum_by w c) chains ≡ sum_by (λ x. cond (among s (length chains) (own x)) (w x) 0) xs
unfolding owned
together_from w own xs [] s each = sym (sum_by-none (λ x. cond (among s 0 (own x)) (w x) 0) xs (λ x. in_none s (own x) (w x)))
together_from w own xs (c ∷ chains) s each =
    let n = length chains in
    let first : sum_by w c ≡ sum_by w (filter (λ x. nat_eq (own x) (s + 0)) xs) = (each 0 (omega arith)).sums w in
    let here : sum_by w c ≡ sum_by (λ x. cond (nat_eq (own x) s) (w x) 0) xs =
    first
    ∙ ap (λ (k : ℕ). sum_by w (filter (λ x. nat_eq (own x) k) xs)) (let e : s + 0 ≡ s = omega arith in e)
    ∙ sum_by-filter w (λ x. nat_eq (own x) s) xs in
    let rest : sum_by (λ b. sum_by w b) chains ≡ sum_by (λ x. cond (among (s + 1) n (own x)) (w x) 0) xs =
    together_from w own xs chains (s + 1) (λ t below.
    let e : s + suc t ≡ s + 1 + t = omega arith in
    subst (λ (k : ℕ). Same (get_or chains t []) (filter (λ x. nat_eq (own x) k) xs)) e (each (suc t) (omega (arith, below)))) in
    let all = sum_by-cons (λ b. sum_by w b) c chains in
    let both = sum_by-plus (λ x. cond (nat_eq (own x) s) (w x) 0) (λ x. cond (among (s + 1) n (own x)) (w x) 0) xs in
    let each_one : sum_by (λ x. cond (nat_eq (own x) s) (w x) 0 + cond (among (s + 1) n (own x)) (w x) 0) xs
    ≡ sum_by (λ x. cond (among s (suc n) (own x)) (w x) 0) xs =
    λ i. sum_by (λ x. one_more s n (own x) (w x) i) xs in
    omega (arith, here, rest, all, both, each_one)

-- the chains together have the particles
pub stands_together : (own : Particle → ℕ) (chains : List (List Particle)) (xs : List Particle) → StandFor own chains xs → Same (together chains) xs
stands_together own chains xs stand = record {
  sums = λ w.
      sum_by-together w chains
      ∙ together_from w own xs chains 0 (λ t below.
      let e : t ≡ 0 + t = omega arith in
      subst (λ (k : ℕ). Same (get_or chains t []) (owned own k xs)) e (stand.each t below))
      ∙ sum_by_agree (λ x. cond (among 0 (length chains) (own x)) (w x) 0) w xs
      (All-weaker (λ x. own x < length chains) (λ x. cond (among 0 (length chains) (own x)) (w x) 0 ≡ w x)
      (λ x below. in_all (length chains) (own x) (w x) below) xs stand.owners);
}

-- so the list in order is found from the chains
pub stands_list : (own : Particle → ℕ) (chains : List (List Particle)) (xs : List Particle)
    → StandFor own chains xs → AreOrdered xs → in_order (together chains) ≡ xs
stands_list own chains xs stand o = in_order_is (together chains) xs (stands_together own chains xs stand) o

pub owned_own : (own : Particle → ℕ) (t : ℕ) (xs : List Particle) (x : Particle) → own x ≡ t → owned own t (xs ++ (x ∷ [])) ≡ owned own t xs ++ (x ∷ [])
unfolding owned
owned_own own t xs x is =
    filter-append (λ y. nat_eq (own y) t) xs (x ∷ [])
    ∙ ap (λ (b : Bool). filter (λ y. nat_eq (own y) t) xs ++ cond b (x ∷ []) []) (eq-eqb (own x) t is)

pub owned_other : (own : Particle → ℕ) (t : ℕ) (xs : List Particle) (x : Particle) → (own x ≡ t → ⊥) → owned own t (xs ++ (x ∷ [])) ≡ owned own t xs
unfolding owned
owned_other own t xs x apart =
    filter-append (λ y. nat_eq (own y) t) xs (x ∷ [])
    ∙ ap (λ (b : Bool). filter (λ y. nat_eq (own y) t) xs ++ cond b (x ∷ []) []) (ne_eqb (own x) t apart)
    ∙ append-nil (filter (λ y. nat_eq (own y) t) xs)

-- A particle goes a way out of n. One goes to a receiver where its owner is the sender by its way: so
-- what each sender sends by each way is what goes to the receiver.
pub record Goes (n : ℕ) (own way : Particle → ℕ) (sender : ℕ → ℕ) (goes : Particle → Bool) (x : Particle) : Type 0 where
  pub way_below : way x < n
  pub goes_is : goes x ≡ nat_eq (own x) (sender (way x))

nothing : (a b : Bool) (v : ℕ) → b ≡ false → cond a (cond b v 0) 0 ≡ 0
nothing true true v is = cc
nothing true false v is = refl
nothing false b v is = refl

pub regroup_total : (n : ℕ) (own way : Particle → ℕ) (sender : ℕ → ℕ) (goes : Particle → Bool) (xs : List Particle) (w : Particle → ℕ)
    → All (Goes n own way sender goes) xs
    → total_below n (λ d. sum_by (λ x. cond (nat_eq (way x) d) (w x) 0) (owned own (sender d) xs)) ≡ sum_by (λ x. cond (goes x) (w x) 0) xs
unfolding owned
regroup_total n own way sender goes xs w all =
    let both : ℕ → Particle → ℕ = λ d x. cond (nat_eq (own x) (sender d)) (cond (nat_eq (way x) d) (w x) 0) 0 in
    let apart : total_below n (λ d. sum_by (λ x. cond (nat_eq (way x) d) (w x) 0) (filter (λ x. nat_eq (own x) (sender d)) xs))
    ≡ total_below n (λ d. sum_by (both d) xs) =
    λ i. total_below n (λ d. sum_by-filter (λ x. cond (nat_eq (way x) d) (w x) 0) (λ x. nat_eq (own x) (sender d)) xs i) in
    apart ∙ total-sum_by n both xs
    ∙ sum_by_agree (λ x. total_below n (λ d. both d x)) (λ x. cond (goes x) (w x) 0) xs
    (All-weaker (Goes n own way sender goes) (λ x. total_below n (λ d. both d x) ≡ cond (goes x) (w x) 0) (λ x g. one_way x g) xs all)
  where
    one_way : (x : Particle) → Goes n own way sender goes x
        → total_below n (λ d. cond (nat_eq (own x) (sender d)) (cond (nat_eq (way x) d) (w x) 0) 0) ≡ cond (goes x) (w x) 0
    one_way x g =
        one_total n (way x) (λ d. cond (nat_eq (own x) (sender d)) (cond (nat_eq (way x) d) (w x) 0) 0) g.way_below
        (λ d below other. nothing (nat_eq (own x) (sender d)) (nat_eq (way x) d) (w x) (ne_eqb (way x) d (λ e. other (sym e))))
        ∙ ap (λ (b : Bool). cond (nat_eq (own x) (sender (way x))) (cond b (w x) 0) 0) (eq-eqb (way x) (way x) refl)
        ∙ ap (λ (b : Bool). cond b (w x) 0) (sym g.goes_is)
