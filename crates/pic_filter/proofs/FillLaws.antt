-- Rows filled number by number.
use Rattle.std.proofs.Common.{◌≡◌, ◌≢◌, ℕ, ℤ, pos, ◌+◌, ◌<◌, List, length, slice_set, ◌∙◌, arith}
use Rattle.std.proofs.lemmas.List.{get_or-set_same, get_or-set_other}
use borrow.Author.Count.{below_more}
use Rattle.pic_filter.specs.Runs.{number_at}

-- the first i numbers of a row are those of f
pub record IsFilled (f : ℕ → ℤ) (i : ℕ) (row : List ℤ) : Type 0 where
  pub at : (k : ℕ) → k < i → number_at row k ≡ f k

pub filled_none : (f : ℕ → ℤ) (row : List ℤ) → IsFilled f 0 row
filled_none f row = record { at = λ k below. absurd (omega (arith, below)) }

-- one number more
pub filled_more : (f : ℕ → ℤ) (i : ℕ) (row : List ℤ) (v : ℤ) → i < length row → IsFilled f i row → v ≡ f i → IsFilled f (i + 1) (slice_set row i v)
filled_more f i row v inside before is = record {
  at = below_more (λ k. number_at (slice_set row i v) k ≡ f k) i
      (λ k h. let other : k ≢ i = omega (arith, h) in get_or-set_other row i k v (pos 0) other ∙ before.at k h)
      (get_or-set_same row i v (pos 0) inside ∙ is);
}
