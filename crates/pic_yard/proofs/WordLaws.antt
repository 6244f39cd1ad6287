-- One word of a list is changed.
use Rattle.std.proofs.Common.{◌≡◌, ℕ, zero, suc, ◌<◌, ◌⊎◌, List, [], ◌∷◌, length, set, slice_index, inl, inr, refl, ap, arith}
use mathlib.Core.Option.{Option, none, some}

pub word_now : (words : List ℕ) (i x : ℕ) → i < length words → slice_index (set words i x) i ≡ x
word_now [] i x below = absurd (omega (arith, below))
word_now (w ∷ words) zero x below = refl
word_now (w ∷ words) (suc i) x below = word_now words i x (omega (arith, below))

pub word_still : (words : List ℕ) (i k x : ℕ) → (k ≡ i → ⊥) → slice_index (set words i x) k ≡ slice_index words k
word_still [] i k x apart = refl
word_still (w ∷ words) zero zero x apart = absurd (apart refl)
word_still (w ∷ words) zero (suc k) x apart = refl
word_still (w ∷ words) (suc i) zero x apart = refl
word_still (w ∷ words) (suc i) (suc k) x apart = word_still words i k x (λ e. apart (ap (λ (n : ℕ). suc n) e))

-- there is something, or nothing
pub found_or : {A : Type 0} (o : Option A) → (o ≡ none) ⊎ ((y : A) × (o ≡ some y))
found_or none = inl refl
found_or (some y) = inr (y, refl)
