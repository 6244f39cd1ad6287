-- A sum in which two cells have a weight has two terms.
use Rattle.std.proofs.Common.{◌≡◌, ℕ, ◌+◌, ◌<◌, ◌≤◌, ◌⊎◌, [], ◌∷◌, inl, inr, sym, ◌∙◌, arith}
use Rattle.std.proofs.Math.IntN.{ℤ, pos, ◌+ℤ◌, ◌*ℤ◌, *ℤ_comm}
use Rattle.std.proofs.lemmas.Bool.{cases_lt}
use Rattle.pic_num.proofs.ProductLaws.{*ℤ-zero, zero-*ℤ}
use Rattle.pic_num.proofs.Ring.{ring, reads}
use Rattle.pic_grid.specs.Sums.{sum_below}
use Rattle.pic_grid.specs.Hat.{only_at}
use Rattle.pic_grid.proofs.HatLaws.{only_below, only_above, sum_only}
use Rattle.pic_grid.proofs.SumLaws.{sum_plus, sum_times}

-- the term of a cell, where one cell has a weight
lone_term : (f : ℕ → ℤ) (i v j : ℕ) → f j *ℤ pos (only_at i v j) ≡ pos (only_at i v j) *ℤ f i
lone_term f i v j = go (cases_lt j i) (cases_lt i j)
  where
    none : only_at i v j ≡ 0 → f j *ℤ pos (only_at i v j) ≡ pos (only_at i v j) *ℤ f i
    none e = (λ k. f j *ℤ pos (e k)) ∙ *ℤ-zero (f j) ∙ sym (zero-*ℤ (f i)) ∙ sym (λ k. pos (e k) *ℤ f i)

    go : (j < i) ⊎ (i ≤ j) → (i < j) ⊎ (j ≤ i) → f j *ℤ pos (only_at i v j) ≡ pos (only_at i v j) *ℤ f i
    go (inl under) w = none (only_below i v j under)
    go (inr above) (inl over) = none (only_above i v j over)
    go (inr above) (inr upto) =
        let is : j ≡ i = omega (arith, above, upto) in
        (λ k. f (is k) *ℤ pos (only_at i v j)) ∙ *ℤ_comm (f i) (pos (only_at i v j))

one_term : (n i v : ℕ) (f : ℕ → ℤ) → i < n → sum_below n (λ j. f j *ℤ pos (only_at i v j)) ≡ f i *ℤ pos v
one_term n i v f below =
    (λ k. sum_below n (λ j. lone_term f i v j k))
    ∙ sum_times n (λ j. pos (only_at i v j)) (f i)
    ∙ (λ k. sum_only n i v below k *ℤ f i)
    ∙ *ℤ_comm (pos v) (f i)

both : (x : ℤ) (a b : ℕ) → x *ℤ pos (a + b) ≡ x *ℤ pos a +ℤ x *ℤ pos b
both x a b = ring (x ∷ pos a ∷ pos b ∷ []) (search reads depth 40 fits 9000) tt

pub two_terms : (n i u k v : ℕ) (f : ℕ → ℤ) → i < n → k < n
    → sum_below n (λ j. f j *ℤ pos (only_at i u j + only_at k v j)) ≡ f i *ℤ pos u +ℤ f k *ℤ pos v
two_terms n i u k v f low high =
    (λ t. sum_below n (λ j. both (f j) (only_at i u j) (only_at k v j) t))
    ∙ sum_plus n (λ j. f j *ℤ pos (only_at i u j)) (λ j. f j *ℤ pos (only_at k v j))
    ∙ (λ t. one_term n i u f low t +ℤ one_term n k v f high t)
