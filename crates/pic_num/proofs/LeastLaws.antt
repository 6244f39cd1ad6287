-- What is found at the least of some things, and at the least of two groups of things.
use Rattle.std.proofs.Common.{◌≡◌, ℕ, ◌<◌, ◌≤◌, Bool, true, false, cond, nat_lt, Option, None, Some, ◌⊎◌, inl, inr, refl, sym, ap, ◌∙◌, subst, arith}
use Rattle.std.proofs.lemmas.Bool.{cases_lt, cases_order, ltb-true, ltb-false}
use Rattle.std.proofs.lemmas.Option.{same_Some}

-- g finds a at one of some things, and nothing at one of a lesser number
pub record IsLeast {X A : Type 0} (In : X → Type 0) (number : X → ℕ) (g : X → Option A) (a : A) : Type 0 where
  pub at : X
  pub within : In at
  pub found : g at ≡ Some a
  pub before : (x : X) → In x → number x < number at → g x ≡ None

-- o is what g finds at the least of them, and None where it finds nothing at any
pub record Finds {X A : Type 0} (In : X → Type 0) (number : X → ℕ) (g : X → Option A) (o : Option A) : Type 0 where
  pub none : o ≡ None → (x : X) → In x → g x ≡ None
  pub some : (a : A) → o ≡ Some a → IsLeast In number g a

module _ {X A : Type 0} {In : X → Type 0} {number : X → ℕ} {g : X → Option A}
  where
    pub finds_none : ((x : X) → In x → g x ≡ None) → Finds In number g None
    finds_none none = record { none = λ e. none; some = λ a e. absurd (cc) }

    pub finds_some : (a : A) → IsLeast In number g a → Finds In number g (Some a)
    finds_some a least = record {
      none = λ e. absurd (cc);
      some = λ b e. subst (λ (c : A). IsLeast In number g c) (same_Some a b e) least;
    }

    -- where no two of them have one number, one thing is found
    pub finds_same : ((x y : X) → In x → In y → number x ≡ number y → x ≡ y) → (o p : Option A) → Finds In number g o → Finds In number g p → o ≡ p
    finds_same one None None f h = refl
    finds_same one None (Some b) f h =
        let l = h.some b refl in
        let none = f.none refl l.at l.within in
        let some = l.found in cc
    finds_same one (Some a) None f h =
        let l = f.some a refl in
        let none = h.none refl l.at l.within in
        let some = l.found in cc
    finds_same one (Some a) (Some b) f h =
        let l = f.some a refl in
        let m = h.some b refl in
        let here = l.found in
        let there = m.found in
        elim (cases_order (number l.at) (number m.at)) [
          | inl same ↦ sym here ∙ ap g (one l.at m.at l.within m.within same) ∙ there
          | inr apart ↦ elim apart [
            | inl less ↦ (let none = m.before l.at l.within less in cc)
            | inr more ↦ (let none = l.before m.at m.within more in cc)
          ]
        ]

-- what is found at one thing
pub finds_at : {X A : Type 0} (number : X → ℕ) (g : X → Option A) (x : X) → Finds (λ y. x ≡ y) number g (g x)
finds_at {X = X} {A = A} number g x = go (g x) refl
  where
    go : (o : Option A) → g x ≡ o → Finds (λ y. x ≡ y) number g o
    go None none = finds_none (λ y same. subst (λ (z : X). g z ≡ None) same none)
    go (Some a) some = finds_some a (record {
      at = x;
      within = refl;
      found = some;
      before = λ y same less. (let numbers = ap number same in absurd (omega (arith, numbers, less)));
    })

-- what is found among things is found among those that they stand for in the same order
pub finds_along : {X Y A : Type 0} {In : X → Type 0} {number : X → ℕ} {g : X → Option A} (o : Option A) → Finds In number g o
    → (In' : Y → Type 0) (number' : Y → ℕ) (g' : Y → Option A) (h : X → Y)
    → ((x : X) → In x → In' (h x)) → ((y : Y) → In' y → (x : X) × In x × (h x ≡ y)) → ((x : X) → In x → g' (h x) ≡ g x)
    → ((x y : X) → In x → In y → number' (h x) < number' (h y) → number x < number y)
    → Finds In' number' g' o
finds_along {Y = Y} o f In' number' g' h into from same order = record {
  none = λ e y w. (let x = from y w in sym (ap g' x.2) ∙ same x.0 x.1 ∙ f.none e x.0 x.1);
  some = λ a e.
      let l = f.some a e in
      record {
        at = h l.at;
        within = into l.at l.within;
        found = same l.at l.within ∙ l.found;
        before = λ y w less.
            let x = from y w in
            let lower = order x.0 l.at x.1 l.within (subst (λ (z : Y). number' z < number' (h l.at)) (sym x.2) less) in
            sym (ap g' x.2) ∙ same x.0 x.1 ∙ l.before x.0 x.1 lower;
      };
}

-- of two things that are found that of the lesser key, the first where neither is less
unfoldable pub lesser_by : {A : Type 0} → (A → ℕ) → Option A → Option A → Option A
lesser_by key None p = p
lesser_by key (Some a) None = Some a
lesser_by key (Some a) (Some b) = cond (nat_lt (key b) (key a)) (Some b) (Some a)

-- keys of what is found are in the order of numbers
pub record AreKeys {X A : Type 0} (P Q : X → Type 0) (number : X → ℕ) (g : X → Option A) (key : A → ℕ) : Type 0 where
  pub less : (x y : X) (a b : A) → P x → Q y → g x ≡ Some a → g y ≡ Some b → key b < key a → number y < number x
  pub more : (x y : X) (a b : A) → P x → Q y → g x ≡ Some a → g y ≡ Some b → key a ≤ key b → number x ≤ number y

pub keys_named : {X A : Type 0} (P Q : X → Type 0) {number : X → ℕ} {g : X → Option A} (key : A → ℕ)
    → ((x : X) (a : A) → g x ≡ Some a → key a ≡ number x) → AreKeys P Q number g key
keys_named P Q key named = record {
  less = λ x y a b p q here there lower. (let one = named x a here in let other = named y b there in omega (arith, one, other, lower));
  more = λ x y a b p q here there lower. (let one = named x a here in let other = named y b there in omega (arith, one, other, lower));
}

-- what is found in one of two groups is found in both, where nothing is found before it in the other
with_others : {X A : Type 0} {P Q R : X → Type 0} {number : X → ℕ} {g : X → Option A} (a : A) (l : IsLeast P number g a)
    → ((x : X) → P x → R x) → ((x : X) → R x → P x ⊎ Q x) → ((x : X) → Q x → number x < number l.at → g x ≡ None) → Finds R number g (Some a)
with_others a l into out none = finds_some a (record {
  at = l.at;
  within = into l.at l.within;
  found = l.found;
  before = λ x w less. elim (out x w) [
    | inl p ↦ l.before x p less
    | inr q ↦ none x q less
  ];
})

-- R has the things of P and those of Q: the lesser of what is found in each is what is found in both
module _ {X A : Type 0} {P Q R : X → Type 0} {number : X → ℕ} {g : X → Option A} (key : A → ℕ) (keys : AreKeys P Q number g key)
    (left : (x : X) → P x → R x) (right : (x : X) → Q x → R x) (out : (x : X) → R x → P x ⊎ Q x)
  where
    swapped : (x : X) → R x → Q x ⊎ P x
    swapped x w = elim (out x w) [
      | inl p ↦ inr p
      | inr q ↦ inl q
    ]

    pub finds_both : (o p : Option A) → Finds P number g o → Finds Q number g p → Finds R number g (lesser_by key o p)
    unfolding lesser_by
    finds_both None None f h = finds_none (λ x w. elim (out x w) [
      | inl p ↦ f.none refl x p
      | inr q ↦ h.none refl x q
    ])
    finds_both None (Some b) f h = with_others b (h.some b refl) right swapped (λ x p less. f.none refl x p)
    finds_both (Some a) None f h = with_others a (f.some a refl) left out (λ x q less. h.none refl x q)
    finds_both (Some a) (Some b) f h = by_test (nat_lt (key b) (key a)) refl
      where
        l : IsLeast P number g a
        l = f.some a refl

        m : IsLeast Q number g b
        m = h.some b refl

        by_test : (t : Bool) → nat_lt (key b) (key a) ≡ t → Finds R number g (cond t (Some b) (Some a))
        by_test true is =
            let lower = keys.less l.at m.at a b l.within m.within l.found m.found (ltb-true (key b) (key a) is) in
            with_others b m right swapped (λ x p less. l.before x p (omega (arith, lower, less)))
        by_test false is =
            let lower = keys.more l.at m.at a b l.within m.within l.found m.found (ltb-false (key b) (key a) is) in
            with_others a l left out (λ x q less. m.before x q (omega (arith, lower, less)))

-- of some things themselves what is found is one of them, and of the least key
pub finds_itself : {A : Type 0} (key : A → ℕ) (o : Option A) → Finds (λ a. o ≡ Some a) key (λ a. Some a) o
finds_itself key None = finds_none (λ a is. absurd (cc))
finds_itself key (Some a) = finds_some a (record {
  at = a;
  within = refl;
  found = refl;
  before = λ b same less. (let keys = ap key (same_Some a b same) in absurd (omega (arith, keys, less)));
})

pub found_in : {A : Type 0} (In : A → Type 0) (key : A → ℕ) (o : Option A) (a : A) → Finds In key (λ b. Some b) o → o ≡ Some a → In a
found_in In key o a f is = let l = f.some a is in subst In (same_Some l.at a l.found) l.within

pub found_least : {A : Type 0} (In : A → Type 0) (key : A → ℕ) (o : Option A) (a b : A) → Finds In key (λ c. Some c) o → o ≡ Some a → In b → key a ≤ key b
found_least In key o a b f is there =
    let l = f.some a is in
    let keys = ap key (same_Some l.at a l.found) in
    elim (cases_lt (key b) (key a)) [
      | inl less ↦ (let none : Some b ≡ None = l.before b there (omega (arith, keys, less)) in absurd (cc))
      | inr more ↦ more
    ]
