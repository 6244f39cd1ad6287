use Rattle.std.proofs.Common.{rules, ◌≡◌, ℕ, ℤ, pos, negsuc, true, ◌+◌, ◌*◌, ◌^◌, ◌<◌, List, slice_index_or, IsTrue, bit_or}
use Rattle.std.proofs.Common.{to_z, of_z, inl, inr, subst, sym, arith}
use Rattle.std.proofs.lemmas.Bool.{cases_lt, ltb-true}
use Rattle.std.proofs.lemmas.Int.{of_z-to_z}
use Rattle.std.proofs.lemmas.List.{get_or_past}
use Rattle.std.proofs.lemmas.Nat.{le_or_l, le_or_r, or_lt}
use lib.Signed.{le_z, lt_z}
use mir.Syntax.{w128}
use mir.Val.{SFits, Fits}
use Rattle.pic_num.specs.Sizes.{IsAtMost}
use Rattle.pic_block.specs.Weak.{most_weak}
use Rattle.pic_block.proofs.WeakLaws.{raised, weak_of_raised}
use Rattle.pic_block.proofs.weak.are_weak.Goals as goal

-- the numbers whose bits are put together have no bit that the whole hasn't
bits_among : (bits here : ℕ) → Fits w128 bits → here < 2 ^ 128 → of_z w128 (to_z w128 (bit_or bits here)) < 2 * most_weak
    → (of_z w128 (to_z w128 bits) < 2 * most_weak) × (here < 2 * most_weak)
bits_among bits here fits small few =
    let is = of_z-to_z w128 (bit_or bits here) (or_lt 128 bits here fits.fits small) in
    let was = of_z-to_z w128 bits fits.fits in
    let all : bit_or bits here < 2 * most_weak = subst (λ n. n < 2 * most_weak) is few in
    (subst (λ n. n < 2 * most_weak) (sym was) (omega (arith, all, le_or_l bits here)), omega (arith, all, le_or_r bits here))

-- one value more
weak_more : (values : List ℤ) (i : ℕ) → ((k : ℕ) → k < i → IsAtMost (slice_index_or values k (pos 0)) most_weak)
    → IsAtMost (slice_index_or values i (pos 0)) most_weak → (k : ℕ) → k < i + 1 → IsAtMost (slice_index_or values k (pos 0)) most_weak
weak_more values i before here k below = elim (cases_lt k i) [
  | inl less ↦ before k less
  | inr least ↦ (let same : i ≡ k = omega (arith, below, least) in subst (λ j. IsAtMost (slice_index_or values j (pos 0)) most_weak) same here)
]

few_bits : (z : ℤ) (n : ℕ) → le_z (pos 0) z ≡ true → IsTrue (lt_z z (pos n)) → of_z w128 z < n
few_bits (pos m) n least less = ltb-true m n less
few_bits (negsuc m) n least less = cc

pub loop-i-init : goal.loop-i-init
loop-i-init c = λ few k below. absurd (omega (arith, below))

pub loop-i-preserved : goal.loop-i-preserved
loop-i-preserved c = λ few.
    let values = c.args.values.now in
    let bits = c.loop-i.bits-bits in
    let v = slice_index_or values c.loop-i.i (pos 0) in
    let fits : SFits w128 v = search rules in
    let both = bits_among bits (raised v) c.loop-i.auto.bits (omega arith) few in
    weak_more values c.loop-i.i (c.loop-i.invariant both.0) (weak_of_raised v fits both.1)

pub returns-then-bits-ge0 : goal.returns-then-bits-ge0
returns-then-bits-ge0 c = λ less.
    let values = c.args.values.now in
    let few = few_bits (to_z w128 c.loop-i.bits-bits) (2 * most_weak) c.if-bits-ge0.true less in
    record {
      at = λ k. elim (cases_lt k c.loop-i.i) [
        | inl less ↦ c.loop-i.invariant few k less
        | inr least ↦ subst (λ v. IsAtMost v most_weak) (sym (get_or_past values k (pos 0) (omega (arith, least, c.loop-i-test.false))))
            (record { size = omega arith })
      ];
    }
