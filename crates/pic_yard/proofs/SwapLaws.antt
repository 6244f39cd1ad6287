-- The slots of a seat, where one comes first or has another value.
use Rattle.std.proofs.Common.{◌≡◌, ℕ, List, [], ◌∷◌, Bool, eq-eqb, ne_eqb, if◌then◌else◌, inl, inr, refl, sym, ap, ◌∙◌, subst}
use Rattle.std.proofs.Math.Decide.{ℕ_discrete}
use mathlib.Core.Option.{Option, none, some}
use Rattle.pic_yard.specs.Fronts.{seek, drop_slot, put_first, to_front}
use Rattle.pic_yard.specs.Acts.{Apart}
use Rattle.pic_yard.proofs.WordLaws.{found_or}

module _ {S : Type 0} where
  pub seek_first : (k : ℕ) (x : ℕ × S) (xs : List (ℕ × S)) → x.0 ≡ k → seek k (x ∷ xs) ≡ some x.1
  seek_first k x xs is = ap (λ (b : Bool). if b then some x.1 else seek k xs) (eq-eqb x.0 k is)

  pub seek_rest : (k : ℕ) (x : ℕ × S) (xs : List (ℕ × S)) → (x.0 ≡ k → ⊥) → seek k (x ∷ xs) ≡ seek k xs
  seek_rest k x xs apart = ap (λ (b : Bool). if b then some x.1 else seek k xs) (ne_eqb x.0 k apart)

  drop_first : (k : ℕ) (x : ℕ × S) (xs : List (ℕ × S)) → x.0 ≡ k → drop_slot k (x ∷ xs) ≡ xs
  drop_first k x xs is = ap (λ (b : Bool). if b then xs else x ∷ drop_slot k xs) (eq-eqb x.0 k is)

  pub drop_rest : (k : ℕ) (x : ℕ × S) (xs : List (ℕ × S)) → (x.0 ≡ k → ⊥) → drop_slot k (x ∷ xs) ≡ x ∷ drop_slot k xs
  drop_rest k x xs apart = ap (λ (b : Bool). if b then xs else x ∷ drop_slot k xs) (ne_eqb x.0 k apart)

  -- the other slots have what they had
  pub dropped_else : (j k : ℕ) (xs : List (ℕ × S)) → (j ≡ k → ⊥) → seek j (drop_slot k xs) ≡ seek j xs
  dropped_else j k [] apart = refl
  dropped_else j k (x ∷ xs) apart = by_case (dropped_else j k xs apart)
    where
      by_case : seek j (drop_slot k xs) ≡ seek j xs → seek j (drop_slot k (x ∷ xs)) ≡ seek j (x ∷ xs)
      by_case before = elim (ℕ_discrete x.0 k) [
        | yes is ↦ ap (λ (l : List (ℕ × S)). seek j l) (drop_first k x xs is) ∙ sym (seek_rest j x xs (λ e. apart (sym e ∙ is)))
        | no not ↦ ap (λ (l : List (ℕ × S)). seek j l) (drop_rest k x xs not) ∙ (elim (ℕ_discrete x.0 j) [
          | yes it ↦ seek_first j x (drop_slot k xs) it ∙ sym (seek_first j x xs it)
          | no other ↦ seek_rest j x (drop_slot k xs) other ∙ before ∙ sym (seek_rest j x xs other)
        ])
      ]

  -- the slot is not among the rest
  pub dropped_none : (k : ℕ) (xs : List (ℕ × S)) → Apart xs → seek k (drop_slot k xs) ≡ none
  dropped_none k [] once = refl
  dropped_none k (x ∷ xs) once = by_case (dropped_none k xs once.1)
    where
      by_case : seek k (drop_slot k xs) ≡ none → seek k (drop_slot k (x ∷ xs)) ≡ none
      by_case before = elim (ℕ_discrete x.0 k) [
        | yes is ↦ ap (λ (l : List (ℕ × S)). seek k l) (drop_first k x xs is) ∙ subst (λ (j : ℕ). seek j xs ≡ none) is once.0
        | no not ↦ ap (λ (l : List (ℕ × S)). seek k l) (drop_rest k x xs not) ∙ seek_rest k x (drop_slot k xs) not ∙ before
      ]

  pub dropped_once : (k : ℕ) (xs : List (ℕ × S)) → Apart xs → Apart (drop_slot k xs)
  dropped_once k [] once = once
  dropped_once k (x ∷ xs) once = by_case (dropped_once k xs once.1)
    where
      by_case : Apart (drop_slot k xs) → Apart (drop_slot k (x ∷ xs))
      by_case before = elim (ℕ_discrete x.0 k) [
        | yes is ↦ subst (λ (l : List (ℕ × S)). Apart l) (sym (drop_first k x xs is)) once.1
        | no not ↦ subst (λ (l : List (ℕ × S)). Apart l) (sym (drop_rest k x xs not)) (dropped_else x.0 k xs not ∙ once.0, before)
      ]

  -- a slot that was found comes first
  pub front_is : (k : ℕ) (y : S) (xs : List (ℕ × S)) → seek k xs ≡ some y → to_front k xs ≡ (k, y) ∷ drop_slot k xs
  front_is k y xs there = ap (λ (found : Option S). put_first k found (drop_slot k xs)) there

  pub front_none : (k : ℕ) (xs : List (ℕ × S)) → seek k xs ≡ none → to_front k xs ≡ drop_slot k xs
  front_none k xs gone = ap (λ (found : Option S). put_first k found (drop_slot k xs)) gone

  -- all slots have the same, in whatever order
  pub front_seek : (j k : ℕ) (xs : List (ℕ × S)) → Apart xs → seek j (to_front k xs) ≡ seek j xs
  front_seek j k xs once = elim (found_or (seek k xs)) [
    | inl gone ↦ ap (λ (l : List (ℕ × S)). seek j l) (front_none k xs gone) ∙ (elim (ℕ_discrete j k) [
      | yes is ↦ subst (λ (i : ℕ). seek i (drop_slot k xs) ≡ seek i xs) (sym is) (dropped_none k xs once ∙ sym gone)
      | no not ↦ dropped_else j k xs not
    ])
    | inr hit ↦ ap (λ (l : List (ℕ × S)). seek j l) (front_is k hit.0 xs hit.1) ∙ (elim (ℕ_discrete j k) [
      | yes is ↦ seek_first j (k, hit.0) (drop_slot k xs) (sym is) ∙ sym hit.1 ∙ ap (λ (i : ℕ). seek i xs) (sym is)
      | no not ↦ seek_rest j (k, hit.0) (drop_slot k xs) (λ e. not (sym e)) ∙ dropped_else j k xs not
    ])
  ]

  pub front_once : (k : ℕ) (xs : List (ℕ × S)) → Apart xs → Apart (to_front k xs)
  front_once k xs once = elim (found_or (seek k xs)) [
    | inl gone ↦ subst (λ (l : List (ℕ × S)). Apart l) (sym (front_none k xs gone)) (dropped_once k xs once)
    | inr hit ↦ subst (λ (l : List (ℕ × S)). Apart l) (sym (front_is k hit.0 xs hit.1)) (dropped_none k xs once, dropped_once k xs once)
  ]

  -- one slot has another value, and comes first
  pub record Swapped (k : ℕ) (y : S) (old new : List (ℕ × S)) : Type 0 where
    pub here : seek k new ≡ some y
    pub others : (j : ℕ) → (j ≡ k → ⊥) → seek j new ≡ seek j old
    pub once : Apart new

  pub swapped : (k : ℕ) (y : S) (xs : List (ℕ × S)) → Apart xs → Swapped k y xs ((k, y) ∷ drop_slot k xs)
  swapped k y xs once = record {
    here = seek_first k (k, y) (drop_slot k xs) refl;
    others = λ j not. seek_rest j (k, y) (drop_slot k xs) (λ e. not (sym e)) ∙ dropped_else j k xs not;
    once = (dropped_none k xs once, dropped_once k xs once);
  }
