-- One species more.
use Rattle.std.proofs.Common.{◌≡◌, ℕ, ◌<◌, List, [], ◌∷◌, ◌++◌, length, get_or, inl, inr, arith}
use Rattle.std.proofs.lemmas.Bool.{cases_lt}
use Rattle.std.proofs.lemmas.List.{length-append, get_or_append_left, get_or_push}
use Rattle.std.proofs.lemmas.List.Sums.{sum_by-append}
use Rattle.pic_grid.specs.Species.{IsName, IsKind, HeadView, no_head, AreHeads}
use Rattle.pic_header.specs.HeaderFields.{IsNewHead}

-- what holds of each and of one more
each_more : (P : HeadView → Type 0) (hs : List HeadView) (h : HeadView) → ((i : ℕ) → i < length hs → P (get_or hs i no_head)) → P h
    → (i : ℕ) → i < length (hs ++ h ∷ []) → P (get_or (hs ++ h ∷ []) i no_head)
each_more P hs h below here i less =
    let size = length-append hs (h ∷ []) in
    elim (cases_lt i (length hs)) [
      | inl inside ↦ rw (get_or_append_left hs (h ∷ []) no_head i inside) (below i inside)
      | inr last ↦ (let at_end : length hs ≡ i = omega (arith, last, less, size) in rw (get_or_push hs h no_head i at_end) here)
    ]

-- names that differ, and one more that differs from each
differ_more : (hs : List HeadView) (h : HeadView) → ((i j : ℕ) → i < j → j < length hs → (get_or hs i no_head).name ≡ (get_or hs j no_head).name → ⊥)
    → ((i : ℕ) → i < length hs → (get_or hs i no_head).name ≡ h.name → ⊥)
    → (j : ℕ) → j < length (hs ++ h ∷ []) → (i : ℕ) → i < j → (get_or hs i no_head).name ≡ (get_or (hs ++ h ∷ []) j no_head).name → ⊥
differ_more hs h before new j high =
    let size = length-append hs (h ∷ []) in
    elim (cases_lt j (length hs)) [
      | inl inside ↦ rw (get_or_append_left hs (h ∷ []) no_head j inside) (λ i less. before i j less inside)
      | inr last ↦
          (let at_end : length hs ≡ j = omega (arith, last, high, size) in
          rw (get_or_push hs h no_head j at_end) (λ i less. new i (omega (arith, less, at_end))))
    ]

pub heads_none : (most : ℕ) → AreHeads most []
heads_none most = record {
  few = omega arith;
  names = λ i less. absurd (omega (arith, less));
  kinds = λ i less. absurd (omega (arith, less));
  differ = λ i j less high. absurd (omega (arith, high));
  total = omega arith;
}

pub heads_more : (most : ℕ) (hs : List HeadView) (h : HeadView) → AreHeads most hs → length hs < 16 → IsNewHead most hs h → AreHeads most (hs ++ h ∷ [])
heads_more most hs h are room new =
    let size = length-append hs (h ∷ []) in
    let all = sum_by-append (λ (k : HeadView). k.count) hs (h ∷ []) in
    let total = new.total in
    record {
      few = omega (arith, size, room);
      names = each_more (λ k. IsName k.name) hs h are.names new.name;
      kinds = each_more (λ k. IsKind k.kind) hs h are.kinds new.kind;
      differ = λ i j less high. rw (get_or_append_left hs (h ∷ []) no_head i (omega (arith, less, high, size)))
          (differ_more hs h are.differ new.differs j high i less);
      total = omega (arith, all, total);
    }
