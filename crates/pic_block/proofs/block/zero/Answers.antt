use Rattle.std.proofs.Common.{◌≡◌, ◌≢◌, ◌+◌, ◌<◌, ℕ, inl, inr, List, length, get_or, replicate, refl, sym, ◌∙◌, ap, arith}
use Rattle.std.proofs.Math.IntN.{ℤ, pos}
use Rattle.std.proofs.Math.ListN.{set}
use Rattle.std.proofs.lemmas.Bool.{cases_lt}
use Rattle.std.proofs.lemmas.List.{get_or-set_same, get_or-set_other, length-set, get_or-replicate, length-replicate, ext_get_or}
use Rattle.pic_block.proofs.block.zero.Goals as goal

zero_more : (xs : List ℤ) (i : ℕ) → i < length xs → ((k : ℕ) → k < i → get_or xs k (pos 0) ≡ pos 0)
    → (k : ℕ) → k < i + 1 → get_or (set xs i (pos 0)) k (pos 0) ≡ pos 0
zero_more xs i inside zeros k below = elim (cases_lt k i) [
  | inl less ↦ (let other : k ≢ i = λ e. absurd (omega (arith, less, e)) in get_or-set_other xs i k (pos 0) (pos 0) other ∙ zeros k less)
  | inr more ↦ (let same : k ≡ i = omega (arith, below, more) in
      ap (λ (j : ℕ). get_or (set xs i (pos 0)) j (pos 0)) same ∙ get_or-set_same xs i (pos 0) (pos 0) inside)
]

pub loop-i-init : goal.loop-i-init
loop-i-init c = record { long = refl; zeros = λ k below. absurd (omega (arith, below)) }

pub loop-i-preserved : goal.loop-i-preserved
loop-i-preserved c =
    let long = c.loop-i.invariant.long in
    record {
      long = length-set c.loop-i.values c.loop-i.i (pos 0) ∙ long;
      zeros = zero_more c.loop-i.values c.loop-i.i (omega (arith, c.loop-i-test.true, long)) c.loop-i.invariant.zeros;
    }

pub returns : goal.returns
returns c =
    let long = c.loop-i.invariant.long in
    let n = length c.args.values.now in
    let all = length-replicate n (pos 0) in
    ext_get_or (pos 0) c.loop-i.values (replicate n (pos 0)) (long ∙ sym all) (λ k below.
    c.loop-i.invariant.zeros k (omega (arith, below, long, c.loop-i-test.false)) ∙ sym (get_or-replicate n k (pos 0) (pos 0) (omega (arith, below, long))))
