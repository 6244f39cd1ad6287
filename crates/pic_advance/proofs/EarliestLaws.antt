-- Of two stops the earlier, and of many: in which order and grouping they are compared makes no
-- difference.
use Rattle.std.proofs.Common.{◌≡◌, ℕ, zero, suc, ◌+◌, ◌<◌, ◌≤◌, Bool, true, false, cond, Option, Some, None, ◌⊎◌, inl, inr, refl, sym, ◌∙◌, ap, subst, arith}
use Rattle.std.proofs.lemmas.Bool.{cases_lt, lt-ltb, le-ltb}
use Rattle.pic_num.proofs.LeastLaws.{Finds, finds_none, finds_both, keys_named, lesser_by}
use Rattle.pic_grid.specs.declared.stop.Stop.{Stop}
use Rattle.pic_advance.specs.Blocks.{place_number, earlier, earliest}

-- the stop of the lesser place is the earlier,
earlier-less : (a b : Stop) → place_number b < place_number a → earlier (Some a) (Some b) ≡ Some b
unfolding earlier
earlier-less a b less = ap (λ (t : Bool). cond t (Some b) (Some a)) (lt-ltb (place_number b) (place_number a) less)

-- and the first where neither is less
earlier-first : (a b : Stop) → place_number a ≤ place_number b → earlier (Some a) (Some b) ≡ Some a
unfolding earlier
earlier-first a b more = ap (λ (t : Bool). cond t (Some b) (Some a)) (le-ltb (place_number b) (place_number a) more)

none-earlier : (a : Option Stop) → earlier None a ≡ a
unfolding earlier
none-earlier a = refl

earlier-none : (a : Option Stop) → earlier a None ≡ a
unfolding earlier
earlier-none None = refl
earlier-none (Some a) = refl

earlier_grouped : (a b c : Stop) → earlier (earlier (Some a) (Some b)) (Some c) ≡ earlier (Some a) (earlier (Some b) (Some c))
earlier_grouped a b c = elim (cases_lt (place_number b) (place_number a)) [
  | inl p ↦ elim (cases_lt (place_number c) (place_number b)) [
    | inl q ↦ ap (λ (s : Option Stop). earlier s (Some c)) (earlier-less a b p)
        ∙ earlier-less b c q
        ∙ sym (earlier-less a c (omega (arith, p, q)))
        ∙ ap (earlier (Some a)) (sym (earlier-less b c q))
    | inr q ↦ ap (λ (s : Option Stop). earlier s (Some c)) (earlier-less a b p)
        ∙ earlier-first b c q
        ∙ sym (earlier-less a b p)
        ∙ ap (earlier (Some a)) (sym (earlier-first b c q))
  ]
  | inr p ↦ elim (cases_lt (place_number c) (place_number b)) [
    | inl q ↦ ap (λ (s : Option Stop). earlier s (Some c)) (earlier-first a b p)
        ∙ ap (earlier (Some a)) (sym (earlier-less b c q))
    | inr q ↦ ap (λ (s : Option Stop). earlier s (Some c)) (earlier-first a b p)
        ∙ earlier-first a c (omega (arith, p, q))
        ∙ sym (earlier-first a b p)
        ∙ ap (earlier (Some a)) (sym (earlier-first b c q))
  ]
]

-- three stops can be compared in either grouping
pub earlier-assoc : (a b c : Option Stop) → earlier (earlier a b) c ≡ earlier a (earlier b c)
earlier-assoc None b c = ap (λ (s : Option Stop). earlier s c) (none-earlier b) ∙ sym (none-earlier (earlier b c))
earlier-assoc (Some a) None c = ap (λ (s : Option Stop). earlier s c) (earlier-none (Some a)) ∙ ap (earlier (Some a)) (sym (none-earlier c))
earlier-assoc (Some a) (Some b) None = earlier-none (earlier (Some a) (Some b)) ∙ ap (earlier (Some a)) (sym (earlier-none (Some b)))
earlier-assoc (Some a) (Some b) (Some c) = earlier_grouped a b c

pub earliest_zero : (f : ℕ → Option Stop) → earliest f 0 ≡ None
unfolding earliest
earliest_zero f = refl

-- a walk's step
pub earliest_more : (f : ℕ → Option Stop) (n : ℕ) → earliest f (n + 1) ≡ earlier (earliest f n) (f n)
unfolding earliest
earliest_more f n = let next : n + 1 ≡ suc n = omega arith in ap (earliest f) next

-- equal stops have one least
pub earliest_same : (f g : ℕ → Option Stop) (n : ℕ) → ((i : ℕ) → i < n → f i ≡ g i) → earliest f n ≡ earliest g n
unfolding earliest
earliest_same f g zero same = refl
earliest_same f g (suc n) same =
    let before = earliest_same f g n (λ i h. same i (omega (arith, h))) in
    let last = same n (omega arith) in
    λ i. earlier (before i) (last i)

-- where there is no earlier one there is none
none_in_either : (t : Bool) (a b : Stop) → cond t (Some b) (Some a) ≡ None → (Some a ≡ None) × (Some b ≡ None)
none_in_either true a b none = absurd (cc)
none_in_either false a b none = absurd (cc)

pub none_earlier : (a b : Option Stop) → earlier a b ≡ None → (a ≡ None) × (b ≡ None)
unfolding earlier
none_earlier None b none = (refl, none)
none_earlier (Some a) None none = absurd (cc)
none_earlier (Some a) (Some b) none = none_in_either _ a b none

pub none_earliest : (f : ℕ → Option Stop) (n : ℕ) → earliest f n ≡ None → (i : ℕ) → i < n → f i ≡ None
unfolding earliest
none_earliest f zero none i below = absurd (omega (arith, below))
none_earliest f (suc n) none i below =
    let both = none_earlier (earliest f n) (f n) none in
    elim (cases_lt i n) [
      | inl less ↦ none_earliest f n both.0 i less
      | inr more ↦ (let same : i ≡ n = omega (arith, below, more) in ap f same ∙ both.1)
    ]

-- the stops of two groups
pub earliest_both : (f : ℕ → Option Stop) (m n : ℕ) → earliest f (m + n) ≡ earlier (earliest f m) (earliest (λ i. f (m + i)) n)
unfolding earliest
earliest_both f m zero =
    let all : m + 0 ≡ m = omega arith in
    ap (earliest f) all ∙ sym (earlier-none (earliest f m))
earliest_both f m (suc n) =
    let next : m + suc n ≡ m + n + 1 = omega arith in
    ap (earliest f) next
    ∙ earliest_more f (m + n)
    ∙ ap (λ (s : Option Stop). earlier s (f (m + n))) (earliest_both f m n)
    ∙ earlier-assoc (earliest f m) (earliest (λ i. f (m + i)) n) (f (m + n))

earlier_is : (a b : Option Stop) → lesser_by place_number a b ≡ earlier a b
unfolding lesser_by earlier
earlier_is None b = refl
earlier_is (Some a) None = refl
earlier_is (Some a) (Some b) = refl

-- the stops that are found among some things each are one that is found among all of them
pub earliest_finds : {X : Type 0} {number : X → ℕ} {g : X → Option Stop} (In : ℕ → X → Type 0)
    → ((x : X) (s : Stop) → g x ≡ Some s → place_number s ≡ number x) → (f : ℕ → Option Stop) (n : ℕ)
    → ((i : ℕ) → i < n → Finds (In i) number g (f i)) → Finds (λ x. (i : ℕ) × (i < n) × In i x) number g (earliest f n)
unfolding earliest
earliest_finds In named f zero each = finds_none (λ x there. let below = there.1 in absurd (omega (arith, below)))
earliest_finds {X = X} {number = number} {g = g} In named f (suc n) each =
    subst (Finds (Among (suc n)) number g) (earlier_is (earliest f n) (f n))
    (finds_both place_number (keys_named (Among n) (In n) place_number named) left right out (earliest f n) (f n)
    (earliest_finds In named f n (λ i below. each i (omega (arith, below))))
    (each n (omega arith)))
  where
    Among : ℕ → X → Type 0
    Among m x = (i : ℕ) × (i < m) × In i x

    left : (x : X) → Among n x → Among (suc n) x
    left x there = let below = there.1 in (there.0, omega (arith, below), there.2)

    right : (x : X) → In n x → Among (suc n) x
    right x here = (n, omega arith, here)

    out : (x : X) → Among (suc n) x → Among n x ⊎ In n x
    out x there =
        let below = there.1 in
        elim (cases_lt there.0 n) [
          | inl less ↦ inl (there.0, less, there.2)
          | inr more ↦ inr (let same : there.0 ≡ n = omega (arith, below, more) in subst (λ (i : ℕ). In i x) same there.2)
        ]
