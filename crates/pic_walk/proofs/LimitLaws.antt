-- Numbers and their limits.
use Rattle.std.proofs.Common.{◌≡◌, ℤ, List, ℕ, true, false, int_le, Ok, Err, inl, inr, arith, sym, ◌∙◌}
use Rattle.std.proofs.lemmas.Bool.{and_from, and_parts, cases_Bool}
use Rattle.std.proofs.lemmas.Int.{ints, to_z-of_z}
use mir.Syntax.{w64, w128}
use mir.Val.{SFits, to_z, of_z}
use Rattle.pic_walk.specs.declared.limits.Limits.{Limits}
use Rattle.pic_walk.specs.declared.fault.Fault.TheVariants.{Limit}
use Rattle.pic_walk.specs.Limits.{is_within, MeetsLimits}
use Rattle.pic_walk.specs.Walk.{Walked, within}

pub within_in : (limits : Limits) (path : List ℕ) (z : ℤ) → is_within limits z ≡ true → within limits path z ≡ Ok z
unfolding within
within_in limits path z h = rw h

pub within_out : (limits : Limits) (path : List ℕ) (z : ℤ) → is_within limits z ≡ false → within limits path z ≡ Err (Limit path z limits.low limits.high)
unfolding within
within_out limits path z h = rw h

-- a number that meets its limits is within them, and no other is
pub met : (limits : Limits) (path : List ℕ) (z : ℤ) → MeetsLimits limits z → within limits path z ≡ Ok z
met limits path z h =
    within_in limits path z (and_from (int_le limits.low z) (int_le z limits.high) (grind (arith, ints, h.low)) (grind (arith, ints, h.high)))

pub meets : (limits : Limits) (path : List ℕ) (z y : ℤ) → within limits path z ≡ Ok y → MeetsLimits limits z
meets limits path z y e = elim (cases_Bool (is_within limits z)) [
  | inl inside ↦
      (let (low, high) = and_parts (int_le limits.low z) (int_le z limits.high) inside in
      record { low = grind (arith, ints, low); high = grind (arith, ints, high) })
  | inr outside ↦
      (let same : ◌≡◌ {A = Walked ℤ} (Err (Limit path z limits.low limits.high)) (Ok y) = sym (within_out limits path z outside) ∙ e in
      absurd (cc same))
]

-- a number of 64 bits, widened to 128 and passed on
pub widened : (z r : ℤ) → SFits w64 z → r ≡ to_z w64 (of_z w64 z) → to_z w128 (of_z w128 r) ≡ z
widened z r fits e =
    let is : r ≡ z = e ∙ to_z-of_z w64 z fits in
    let big : SFits w128 z = record { sfits = omega (arith, fits.sfits) } in
    rw is (to_z-of_z w128 z big)
