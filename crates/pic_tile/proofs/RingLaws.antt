-- Steps round a ring, and back.
use Rattle.std.proofs.Common.{◌≡◌, ℕ, zero, suc, ◌+◌, ◌-◌, ◌*◌, ◌%◌, ◌<◌, inl, inr, refl, sym, ◌∙◌, ap, arith}
use Rattle.std.proofs.lemmas.Bool.{cases_eq}
use Rattle.std.proofs.lemmas.Nat.{mod-mul-add, mod_below}
use Rattle.pic_tile.specs.Directions.{ring_step}

-- x is r after k turns
turned : (x k n r : ℕ) → x ≡ k * n + r → r < n → x % n ≡ r
turned x k n r e h = ap (λ (y : ℕ). y % n) e ∙ mod-mul-add k n r h

pub ring_below : (n e i : ℕ) → i < n → ring_step n e i < n
unfolding ring_step
ring_below n e i h = mod_below (i + e + (n - 1)) n (omega arith)

-- a step down
pub ring_first : (n e i : ℕ) → e ≡ 0 → i ≡ 0 → 0 < n → ring_step n e i ≡ n - 1
unfolding ring_step
ring_first n e i down at h = turned (i + e + (n - 1)) 0 n (n - 1) (omega arith) (omega arith)

pub ring_down : (n e i : ℕ) → e ≡ 0 → 0 < i → i < n → ring_step n e i ≡ i - 1
unfolding ring_step
ring_down n e i down h k = turned (i + e + (n - 1)) 1 n (i - 1) (omega arith) (omega arith)

-- no step
pub ring_stays : (n e i : ℕ) → e ≡ 1 → i < n → ring_step n e i ≡ i
unfolding ring_step
ring_stays n e i none h = turned (i + e + (n - 1)) 1 n i (omega arith) h

-- a step up
pub ring_last : (n e i : ℕ) → e ≡ 2 → i + 1 ≡ n → ring_step n e i ≡ 0
unfolding ring_step
ring_last n e i up h = turned (i + e + (n - 1)) 2 n 0 (omega arith) (omega arith)

pub ring_up : (n e i : ℕ) → e ≡ 2 → i + 1 < n → ring_step n e i ≡ i + 1
unfolding ring_step
ring_up n e i up h = turned (i + e + (n - 1)) 1 n (i + 1) (omega arith) h

-- where a step leads
pub ruleset ring_steps = (ring_first, ring_down, ring_stays, ring_last, ring_up)

-- a step and the step back
pub ring_back : (n e i : ℕ) → i < n → e < 3 → ring_step n (2 - e) (ring_step n e i) ≡ i
ring_back n zero i h k = elim (cases_eq i 0) [
  | inl e ↦
      (let last : n - 1 + 1 ≡ n = omega arith in
      ap (λ (j : ℕ). ring_step n 2 (ring_step n 0 j)) e
      ∙ ap (ring_step n 2) (ring_first n 0 0 refl refl (omega arith))
      ∙ ring_last n 2 (n - 1) refl last
      ∙ sym e)
  | inr more ↦
      (let up : i - 1 + 1 ≡ i = omega arith in
      ap (ring_step n 2) (ring_down n 0 i refl (omega arith) h) ∙ ring_up n 2 (i - 1) refl (omega arith) ∙ up)
]
ring_back n (suc zero) i h k = ap (ring_step n 1) (ring_stays n 1 i refl h) ∙ ring_stays n 1 i refl h
ring_back n (suc (suc zero)) i h k = elim (cases_eq (i + 1) n) [
  | inl e ↦
      (let first : n - 1 ≡ i = omega arith in
      ap (ring_step n 0) (ring_last n 2 i refl e) ∙ ring_first n 0 0 refl refl (omega arith) ∙ first)
  | inr more ↦
      (let down : i + 1 - 1 ≡ i = omega arith in
      ap (ring_step n 0) (ring_up n 2 i refl (omega arith)) ∙ ring_down n 0 (i + 1) refl (omega arith) (omega arith) ∙ down)
]
ring_back n (suc (suc (suc e))) i h k = absurd (omega arith)
