-- What is found first along a list, and that it is what is found at the least of things in order.
use Rattle.std.proofs.Common.{◌≡◌, ℕ, zero, suc, ◌+◌, ◌<◌, ◌≤◌, Bool, true, false, cond, List, [], ◌∷◌, length, get_or, map}
use Rattle.std.proofs.Common.{Option, Some, None, Ok, Err, ◌⊎◌, inl, inr, refl, sym, ap, ◌∙◌, subst, arith}
use Rattle.std.specs.Option.{option_or}
use Rattle.std.specs.List.{Contains, range_with_len}
use Rattle.std.proofs.lemmas.Bool.{cases_lt}
use Rattle.std.proofs.lemmas.List.{get_or-map, get_or_default}
use Rattle.std.proofs.lemmas.List.Elements.{Contains-get_or}
use Rattle.std.proofs.lemmas.List.FromFn.{get_or-range_with_len}
use Rattle.std.proofs.lemmas.Option.{same_Some}
use Rattle.pic_num.specs.First.{first_of}
use Rattle.pic_num.specs.Push.{unless}
use Rattle.pic_num.proofs.LeastLaws.{Finds, finds_none, finds_some, finds_same, finds_at, finds_along, finds_both, AreKeys, lesser_by}

or_none : {A : Type 0} (o : Option A) → option_or o None ≡ o
or_none None = refl
or_none (Some a) = refl

or_assoc : {A : Type 0} (o p q : Option A) → option_or (option_or o p) q ≡ option_or o (option_or p q)
or_assoc None p q = refl
or_assoc (Some a) p q = refl

-- where neither of two is there, the first is not there, nor the second
pub left_none : {A : Type 0} (o p : Option A) → option_or o p ≡ None → o ≡ None
left_none None p h = refl
left_none (Some a) p h = h

pub right_none : {A : Type 0} (o p : Option A) → option_or o p ≡ None → p ≡ None
right_none None p h = h
right_none (Some a) p h = cc

-- what a test finds where it holds, and where it fails
pub none_unless : {A : Type 0} (t : Bool) (a : A) → cond t (Some a) None ≡ None → t ≡ false
none_unless true a none = absurd (cc)
none_unless false a none = refl

pub none_if : {A : Type 0} (t : Bool) (a : A) → cond t None (Some a) ≡ None → t ≡ true
none_if true a none = refl
none_if false a none = absurd (cc)

pub some_if : {A : Type 0} (t : Bool) (a b : A) → cond t None (Some a) ≡ Some b → (t ≡ false) × (a ≡ b)
some_if true a b some = absurd (cc)
some_if false a b some = (refl, same_Some a b some)

-- a value that nothing stops, and what stops one
pub unless_ok : {A S : Type 0} (o : Option S) (a b : A) → unless o a ≡ Ok b → (o ≡ None) × (a ≡ b)
unless_ok None a b is = (refl, cc)
unless_ok (Some s) a b is = absurd (cc)

pub unless_err : {A S : Type 0} (o : Option S) (a : A) (s : S) → unless o a ≡ Err s → o ≡ Some s
unless_err None a s is = absurd (cc)
unless_err (Some t) a s is = let same : t ≡ s = cc in ap (λ x. Some x) same

-- the same over the numbers from s on
pub first_of_next : {A : Type 0} (g : ℕ → Option A) (s n : ℕ)
    → first_of g (range_with_len s (n + 1)) ≡ option_or (first_of g (range_with_len s n)) (g (s + n))
unfolding first_of
first_of_next g s zero = ap (λ k. first_of g (range_with_len s k)) (let e : 0 + 1 ≡ suc 0 = omega arith in e) ∙ or_none (g s)
    ∙ ap g (let e : s ≡ s + 0 = omega arith in e)
first_of_next g s (suc n) =
    ap (λ k. first_of g (range_with_len s k)) (let e : suc n + 1 ≡ suc (n + 1) = omega arith in e)
    ∙ ap (option_or (g s)) (first_of_next g (s + 1) n ∙ ap (λ k. option_or (first_of g (range_with_len (s + 1) n)) (g k))
    (let e : s + 1 + n ≡ s + suc n = omega arith in e))
    ∙ sym (or_assoc (g s) (first_of g (range_with_len (s + 1) n)) (g (s + suc n)))

-- functions that find the same at each number of a range find the same first
pub first_of_same : {A : Type 0} (g h : ℕ → Option A) (s n : ℕ) → ((i : ℕ) → s ≤ i → i < s + n → g i ≡ h i)
    → first_of g (range_with_len s n) ≡ first_of h (range_with_len s n)
unfolding first_of
first_of_same g h s zero same = refl
first_of_same g h s (suc n) same =
    ap (λ o. option_or o (first_of g (range_with_len (s + 1) n))) (same s (omega arith) (omega arith))
    ∙ ap (option_or (h s)) (first_of_same g h (s + 1) n (λ i low high. same i (omega (arith, low)) (omega (arith, high))))

-- the first of two is that of the lesser key, where all keys are one
first_by : {A : Type 0} (o p : Option A) → lesser_by (λ a. 0) o p ≡ option_or o p
unfolding lesser_by
first_by None p = refl
first_by (Some a) None = refl
first_by (Some a) (Some b) = refl

-- the n numbers from s on
abbrev pub Between : ℕ → ℕ → ℕ → Type 0
Between s n i = (s ≤ i) × (i < s + n)

-- The law: what is found first along a range is found at its least number
pub range_finds : {A : Type 0} (g : ℕ → Option A) (s n : ℕ) → Finds (Between s n) (λ i. i) g (first_of g (range_with_len s n))
unfolding first_of
range_finds g s zero = finds_none (λ i w. (let low = w.0 in let high = w.1 in absurd (omega (arith, low, high))))
range_finds g s (suc n) =
    subst (Finds (Between s (suc n)) (λ i. i) g) (first_by (g s) (first_of g (range_with_len (s + 1) n)))
    (finds_both (λ a. 0) keys left right out (g s) (first_of g (range_with_len (s + 1) n)) (finds_at (λ i. i) g s) (range_finds g (s + 1) n))
  where
    keys : AreKeys (λ i. s ≡ i) (Between (s + 1) n) (λ i. i) g (λ a. 0)
    keys = record {
      less = λ x y a b p q here there lower. absurd (omega (arith, lower));
      more = λ x y a b p q here there lower. (let low = q.0 in omega (arith, p, low));
    }

    left : (i : ℕ) → s ≡ i → Between s (suc n) i
    left i p = (omega (arith, p), omega (arith, p))

    right : (i : ℕ) → Between (s + 1) n i → Between s (suc n) i
    right i q = let low = q.0 in let high = q.1 in (omega (arith, low), omega (arith, high))

    out : (i : ℕ) → Between s (suc n) i → (s ≡ i) ⊎ Between (s + 1) n i
    out i w =
        let low = w.0 in
        let high = w.1 in
        elim (cases_lt s i) [
          | inl later ↦ inr (omega (arith, later), omega (arith, high))
          | inr here ↦ inl (omega (arith, low, here))
        ]

-- what is found at the least number is found first
pub range_is : {A : Type 0} (g : ℕ → Option A) (s n : ℕ) (o : Option A) → Finds (Between s n) (λ i. i) g o → first_of g (range_with_len s n) ≡ o
range_is g s n o f = finds_same (λ i j v w same. same) (first_of g (range_with_len s n)) o (range_finds g s n) f

-- what is found first: nothing before it, and it
pub first_of_at : {A : Type 0} (g : ℕ → Option A) (s n i : ℕ) (a : A) → s ≤ i → i < s + n → g i ≡ Some a
    → ((j : ℕ) → s ≤ j → j < i → g j ≡ None) → first_of g (range_with_len s n) ≡ Some a
first_of_at g s n i a low high found before =
    range_is g s n (Some a) (finds_some a (record { at = i; within = (low, high); found = found; before = λ j w less. before j w.0 less }))

-- where nothing is found nothing is there
pub first_of_none : {A : Type 0} (g : ℕ → Option A) (s n : ℕ) → first_of g (range_with_len s n) ≡ None
    → (i : ℕ) → s ≤ i → i < s + n → g i ≡ None
first_of_none g s n none i low high = (range_finds g s n).none none i (low, high)

-- where nothing is there nothing is found
pub none_first_of : {A : Type 0} (g : ℕ → Option A) (s n : ℕ) → ((i : ℕ) → s ≤ i → i < s + n → g i ≡ None)
    → first_of g (range_with_len s n) ≡ None
none_first_of g s n none = range_is g s n None (finds_none (λ i w. none i w.0 w.1))

-- things in order: each has a number below n, and each such number its thing
pub record AreNumbered {X : Type 0} (In : X → Type 0) (n : ℕ) (number : X → ℕ) (at : ℕ → X) : Type 0 where
  pub below : (x : X) → In x → number x < n
  pub back : (x : X) → In x → at (number x) ≡ x
  pub within : (i : ℕ) → i < n → In (at i)
  pub number_at : (i : ℕ) → i < n → number (at i) ≡ i

-- The law of things in order: what is found first along them is found at the least
module _ {X A : Type 0} {In : X → Type 0} {n : ℕ} {number : X → ℕ} {at : ℕ → X} (order : AreNumbered In n number at) (g : X → Option A)
  where
    pub first_finds : Finds In number g (first_of (λ i. g (at i)) (range_with_len 0 n))
    first_finds =
        finds_along (first_of (λ i. g (at i)) (range_with_len 0 n)) (range_finds (λ i. g (at i)) 0 n) In number g at
        (λ i w. (let high = w.1 in order.within i (omega (arith, high))))
        (λ x w. (let below = order.below x w in (number x, (omega arith, omega (arith, below)), order.back x w))) (λ i w. refl) in_order
      where
        in_order : (i j : ℕ) → Between 0 n i → Between 0 n j → number (at i) < number (at j) → i < j
        in_order i j v w less =
            let high = v.1 in
            let other = w.1 in
            let here = order.number_at i (omega (arith, high)) in
            let there = order.number_at j (omega (arith, other)) in
            omega (arith, less, here, there)

    -- and what is found at the least is found first
    pub first_is : (o : Option A) → Finds In number g o → first_of (λ i. g (at i)) (range_with_len 0 n) ≡ o
    first_is o f =
        finds_same (λ x y v w same. sym (order.back x v) ∙ ap at same ∙ order.back y w) (first_of (λ i. g (at i)) (range_with_len 0 n)) o first_finds f

-- A list in the order of its elements' numbers
module _ {X : Type 0} (number : X → ℕ) (xs : List X) (d : X) (ordered : map number xs ≡ range_with_len 0 (length xs))
  where
    pub number_is : (i : ℕ) (e : X) → i < length xs → number (get_or xs i e) ≡ i
    number_is i e below =
        let here = sym (get_or-map number xs i e 0 below) ∙ ap (λ (ns : List ℕ). get_or ns i 0) ordered ∙ get_or-range_with_len 0 (length xs) i 0 below in
        omega (arith, here)

    pub list_numbered : AreNumbered (Contains xs) (length xs) number (λ i. get_or xs i d)
    list_numbered = record {
      below = λ x there. (let below = there.1 in let here = number_of x there in omega (arith, here, below));
      back = λ x there. ap (λ (i : ℕ). get_or xs i d) (number_of x there) ∙ get_or_default xs there.0 d x there.1 ∙ there.2;
      within = λ i below. Contains-get_or xs i d below;
      number_at = λ i below. number_is i d below;
    }
      where
        number_of : (x : X) (there : Contains xs x) → number x ≡ there.0
        number_of x there = ap number (sym there.2) ∙ number_is there.0 x there.1

-- what is found first along a list is found first along its indices
pub first_of-list : {X A : Type 0} (g : X → Option A) (xs : List X) (d : X) → first_of g xs ≡ first_of (λ i. g (get_or xs i d)) (range_with_len 0 (length xs))
unfolding first_of
first_of-list g [] d = refl
first_of-list g (x ∷ xs) d = ap (option_or (g x)) (first_of-list g xs d ∙ sym (shifted 0 (length xs)))
  where
    shifted : (s n : ℕ) → first_of (λ i. g (get_or (x ∷ xs) i d)) (range_with_len (s + 1) n) ≡ first_of (λ i. g (get_or xs i d)) (range_with_len s n)
    shifted s zero = refl
    shifted s (suc n) = let next : s + 1 ≡ suc s = omega arith in (λ j. option_or (g (get_or (x ∷ xs) (next j) d)) (shifted (s + 1) n j))

module _ {X A : Type 0} (number : X → ℕ) (g : X → Option A) (xs : List X) (d : X) (ordered : map number xs ≡ range_with_len 0 (length xs))
  where
    pub list_finds : Finds (Contains xs) number g (first_of g xs)
    list_finds = subst (Finds (Contains xs) number g) (sym (first_of-list g xs d)) (first_finds (list_numbered number xs d ordered) g)

    pub list_is : (o : Option A) → Finds (Contains xs) number g o → first_of g xs ≡ o
    list_is o f = first_of-list g xs d ∙ first_is (list_numbered number xs d ordered) g o f
