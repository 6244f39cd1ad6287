-- Lists as sets: what is in a list after some of it is left out, or more comes.
use Rattle.std.proofs.Common.{◌≡◌, ℕ, zero, suc, ◌<◌, ◌⊎◌, List, [], ◌∷◌, ◌++◌, Bool, true, false, ◌&&◌, eqb, eq-eqb, eqb-true, true≢false, if◌then◌else◌}
use Rattle.std.proofs.Common.{inl, inr, ⊎_elim, refl, sym, ap, ◌∙◌, arith}
use Rattle.std.proofs.Math.Decide.{ℕ_discrete}
use Rattle.pic_yard.specs.Members.{In, Differ, without, same_pair}
use Rattle.pic_yard.specs.Steps.{boxes_of}

module _ {A : Type 0} where
  pub in_left : (x : A) (xs ys : List A) → In x xs → In x (xs ++ ys)
  in_left x [] ys is = elim is [ ]
  in_left x (y ∷ xs) ys (inl is) = inl is
  in_left x (y ∷ xs) ys (inr more) = inr (in_left x xs ys more)

  pub in_right : (x : A) (xs ys : List A) → In x ys → In x (xs ++ ys)
  in_right x [] ys more = more
  in_right x (y ∷ xs) ys more = inr (in_right x xs ys more)

  pub in_parts : (x : A) (xs ys : List A) → In x (xs ++ ys) → In x xs ⊎ In x ys
  in_parts x [] ys is = inr is
  in_parts x (y ∷ xs) ys (inl is) = inl (inl is)
  in_parts x (y ∷ xs) ys (inr more) = ⊎_elim (λ a. inl (inr a)) (λ b. inr b) (in_parts x xs ys more)

  -- what the test doesn't find is still there
  pub kept : (found : A → Bool) (x : A) (xs : List A) → In x xs → found x ≡ false → In x (without found xs)
  kept found x [] is unseen = elim is [ ]
  kept found x (y ∷ xs) is unseen = choose (found y) refl is (λ more. kept found x xs more unseen)
    where
      choose : (b : Bool) → found y ≡ b → In x (y ∷ xs) → (In x xs → In x (without found xs)) → In x (if b then without found xs else y ∷ without found xs)
      choose true e (inl same) rest = absurd (true≢false (sym e ∙ ap found (sym same) ∙ unseen))
      choose true e (inr more) rest = rest more
      choose false e (inl same) rest = inl same
      choose false e (inr more) rest = inr (rest more)

  -- what is still there was there
  pub was_in : (found : A → Bool) (x : A) (xs : List A) → In x (without found xs) → In x xs
  was_in found x [] is = elim is [ ]
  was_in found x (y ∷ xs) is = choose (found y) is (λ more. was_in found x xs more)
    where
      choose : (b : Bool) → In x (if b then without found xs else y ∷ without found xs) → (In x (without found xs) → In x xs) → In x (y ∷ xs)
      choose true more rest = inr (rest more)
      choose false (inl same) rest = inl same
      choose false (inr more) rest = inr (rest more)

  -- and the test doesn't find it
  pub unseen_in : (found : A → Bool) (x : A) (xs : List A) → In x (without found xs) → found x ≡ false
  unseen_in found x [] is = elim is [ ]
  unseen_in found x (y ∷ xs) is = choose (found y) refl is (λ more. unseen_in found x xs more)
    where
      choose : (b : Bool) → found y ≡ b → In x (if b then without found xs else y ∷ without found xs) → (In x (without found xs) → found x ≡ false)
          → found x ≡ false
      choose true e more rest = rest more
      choose false e (inl same) rest = ap found same ∙ e
      choose false e (inr more) rest = rest more

  -- what is left out of a list leaves no element twice,
  pub differ_without : (found : A → Bool) (xs : List A) → Differ xs → Differ (without found xs)
  differ_without found [] apart = tt
  differ_without found (y ∷ xs) apart = choose (found y) (differ_without found xs apart.1)
    where
      choose : (b : Bool) → Differ (without found xs) → Differ (if b then without found xs else y ∷ without found xs)
      choose true rest = rest
      choose false rest = ((λ more. apart.0 (was_in found y xs more)), rest)

  -- nor do two lists, one after the other, that have no element in common
  pub differ_both : (xs ys : List A) → Differ xs → Differ ys → ((x : A) → In x xs → In x ys → ⊥) → Differ (xs ++ ys)
  differ_both [] ys first second none = second
  differ_both (x ∷ xs) ys first second none = (
    (λ more. elim (in_parts x xs ys more) [ inl a ↦ first.0 a | inr b ↦ none x (inl refl) b ]),
    differ_both xs ys first.1 second (λ z a b. none z (inr a) b),
  )

-- the mailboxes of a claim
pub in_boxes : (to : ℕ → ℕ) (d n : ℕ) → d < n → In (to d, d) (boxes_of to n)
unfolding boxes_of
in_boxes to d zero below = absurd (omega (arith, below))
in_boxes to d (suc n) below =
    let split : Dec (d ≡ n) = ℕ_discrete d n in
    elim split [
      | yes is ↦ inl (ap (λ (k : ℕ). (to k, k)) is)
      | no apart ↦ inr (in_boxes to d n (omega arith))
    ]

pub boxes_in : (to : ℕ → ℕ) (r d n : ℕ) → In (r, d) (boxes_of to n) → (d < n) × (r ≡ to d)
unfolding boxes_of
boxes_in to r d zero is = elim is [ ]
boxes_in to r d (suc n) (inl same) =
    let dir : d ≡ n = ap (λ (p : ℕ × ℕ). p.1) same in
    (omega (arith, dir), ap (λ (p : ℕ × ℕ). p.0) same ∙ ap to (sym dir))
boxes_in to r d (suc n) (inr more) = let rest : (d < n) × (r ≡ to d) = boxes_in to r d n more in let below : d < n = rest.0 in (omega arith, rest.1)

-- which differ, since their directions do
pub boxes_differ : (to : ℕ → ℕ) (n : ℕ) → Differ (boxes_of to n)
unfolding boxes_of
boxes_differ to zero = tt
boxes_differ to (suc n) = ((λ more. let below : n < n = (boxes_in to (to n) n n more).0 in omega (arith, below)), boxes_differ to n)

-- the test for one pair
pub pair_here : (r d : ℕ) → same_pair r d (r, d) ≡ true
pair_here r d = ap (λ (b : Bool). b && eqb d d) (eq-eqb r r refl) ∙ eq-eqb d d refl

pub pair_other : (r d e f : ℕ) → ((e ≡ r) × (f ≡ d) → ⊥) → same_pair r d (e, f) ≡ false
pair_other r d e f apart = choose (eqb e r) refl (eqb f d) refl
  where
    choose : (a : Bool) → eqb e r ≡ a → (b : Bool) → eqb f d ≡ b → (a && b) ≡ false
    choose true first true second = absurd (apart (eqb-true e r first, eqb-true f d second))
    choose true first false second = refl
    choose false first b second = refl

pub pair_apart : (r d e f : ℕ) → same_pair r d (e, f) ≡ false → (e ≡ r) × (f ≡ d) → ⊥
pair_apart r d e f unseen same = true≢false (sym (ap (λ (p : ℕ × ℕ). same_pair r d p) (λ i. (same.0 i, same.1 i)) ∙ pair_here r d) ∙ unseen)
