-- A velocity whose move is at most one cell.
use Rattle.std.proofs.Common.{◌≡◌, ℕ, ◌^◌, ◌-◌, ◌≤◌, Bool, true, false, nat_lt, if◌then◌else◌, unsigned_abs, Option, Some, None, Ok, refl, arith}
use Rattle.std.specs.Option.{option_or}
use Rattle.std.proofs.lemmas.Bool.Decides.{nat_tests}
use Rattle.std.proofs.Math.IntN.{ℤ, pos, ◌-ℤ◌}
use Rattle.std.specs.Prelude.{◌<ℤ◌, ◌≤ℤ◌, IsOk}
use Rattle.std.proofs.lemmas.Int.{ints}
use Rattle.pic_num.specs.declared.axis.Axis.{Axis}
use Rattle.pic_num.specs.declared.axis.Axis.TheVariants.{X, Y, Z}
use Rattle.pic_num.specs.declared.motion.What.{What}
use Rattle.pic_num.specs.declared.motion.What.TheVariants.{Speed, Turn, Far}
use Rattle.pic_num.specs.First.{first_of}
use Rattle.pic_num.specs.Limits.{most_side, most_speed, most_turn, velocity_unit}
use Rattle.pic_num.specs.Multiplier.{Multiplier}
use Rattle.pic_num.specs.Push.{Halting, each, plus, turned, first_above, unless, pushed}
use Rattle.pic_num.specs.Rounding.{rounded, scaled}
use Rattle.pic_num.specs.Sizes.{IsAtMost}
use Rattle.pic_num.specs.Space.{Spot, along, AreAtMost}
use Rattle.pic_num.specs.Velocity.{too_fast, IsKeptVelocity}
use Rattle.pic_num.proofs.FirstLaws.{left_none, right_none, none_unless}
use Rattle.pic_num.proofs.RoundingLaws.{rounded-is}
use Rattle.pic_boris.specs.Pushes.{arrived}

kept : (side : ℕ) (v : ℤ) → IsAtMost (rounded v (pos velocity_unit)) side
    → ((pos 0 -ℤ pos (too_fast side)) ≤ℤ v) × (v <ℤ pos (too_fast side))
kept side v h =
    let is = rounded-is v (pos velocity_unit) (omega (arith, ints)) in
    (omega (arith, ints, is.above, h.size), omega (arith, ints, is.below, h.size))

kept_along : (side : ℕ) (v : Spot) → AreAtMost (each (λ c. rounded c (pos velocity_unit)) v) side
    → (a : Axis) → ((pos 0 -ℤ pos (too_fast side)) ≤ℤ along a v) × (along a v <ℤ pos (too_fast side))
kept_along side v h X = kept side v.x h.x
kept_along side v h Y = kept side v.y h.y
kept_along side v h Z = kept side v.z h.z

pub kept_velocity : (side : ℕ) (v : Spot) → AreAtMost (each (λ c. rounded c (pos velocity_unit)) v) side → IsKeptVelocity side v
kept_velocity side v h = record { least = λ a. (kept_along side v h a).0; most = λ a. (kept_along side v h a).1 }

kept_size : (side : ℕ) (v : ℤ) → side ≤ most_side → (pos 0 -ℤ pos (too_fast side)) ≤ℤ v → v <ℤ pos (too_fast side) → IsAtMost v (2 ^ 31 - 1)
kept_size side v few least most = record { size = omega (arith, ints, few, least, most) }

pub kept_sizes : (side : ℕ) (v : Spot) → side ≤ most_side → IsKeptVelocity side v → AreAtMost v (2 ^ 31 - 1)
kept_sizes side v few h = record {
  x = kept_size side v.x few (h.least X) (h.most X);
  y = kept_size side v.y few (h.least Y) (h.most Y);
  z = kept_size side v.z few (h.least Z) (h.most Z);
}

not_above : (most n : ℕ) → n ≤ most → nat_lt most n ≡ false
not_above most n h = go (nat_lt most n) refl
  where
    go : (b : Bool) → nat_lt most n ≡ b → nat_lt most n ≡ false
    go false e = e
    go true e = absurd (grind (arith, nat_tests))

-- a vector whose components are no larger fails no test
pub none_above : (what : What) (n most : ℕ) (p : Spot) → n ≤ most → AreAtMost p n → first_above what most p ≡ None
unfolding first_above first_of
none_above what n most p more h =
    let x = not_above most (unsigned_abs p.x) (omega (arith, more, h.x.size)) in
    let y = not_above most (unsigned_abs p.y) (omega (arith, more, h.y.size)) in
    let z = not_above most (unsigned_abs p.z) (omega (arith, more, h.z.size)) in
    let halt : Axis → ℤ → Bool → Option Halting = λ axis value b. if b then Some (record { what = what; axis = axis; value = value }) else None in
    λ i. option_or (halt X p.x (x i)) (option_or (halt Y p.y (y i)) (option_or (halt Z p.z (z i)) None))

not_below : (most n : ℕ) → nat_lt most n ≡ false → n ≤ most
not_below most n h = grind (arith, nat_tests)

-- a vector that fails no test has no larger component
none_larger : (what : What) (most : ℕ) (p : Spot) → first_above what most p ≡ None → AreAtMost p most
unfolding first_above first_of
none_larger what most p none =
    let after_x = right_none _ _ none in
    record {
      x = record { size = not_below most (unsigned_abs p.x) (none_unless _ _ (left_none _ _ none)) };
      y = record { size = not_below most (unsigned_abs p.y) (none_unless _ _ (left_none _ _ after_x)) };
      z = record { size = not_below most (unsigned_abs p.z) (none_unless _ _ (left_none _ _ (right_none _ _ after_x))) };
    }

-- nothing stopped what is there
unstopped : {A S : Type 0} (o : Option S) (a : A) → IsOk (unless o a) → o ≡ None
unstopped None a there = refl
unstopped (Some s) a there = absurd (cc)

-- a velocity that leads anywhere moves no further than a side
pub arrives_near : (side : ℕ) (v : Spot) → IsOk (arrived side v) → AreAtMost (each (λ c. rounded c (pos velocity_unit)) v) side
arrives_near side v there = none_larger Far side (each (λ c. rounded c (pos velocity_unit)) v) (unstopped _ _ there)

-- a velocity that moves no further than a side leads there
pub near_arrives : (side : ℕ) (v : Spot) → AreAtMost (each (λ c. rounded c (pos velocity_unit)) v) side
    → arrived side v ≡ Ok (record { v = v; d = each (λ c. rounded c (pos velocity_unit)) v })
near_arrives side v h =
    let move = each (λ c. rounded c (pos velocity_unit)) v in
    λ i. unless (none_above Far side side move (omega arith) h i) (record { v = v; d = move })

-- where neither the speed nor the turn is too large, a push leads where its new velocity does
pub slow_arrives : (side : ℕ) (v e b : Spot) (kick turn : Multiplier) → AreAtMost (plus v (each (λ c. scaled c kick) e)) (2 ^ 26)
    → AreAtMost (each (λ c. scaled c turn) b) (2 ^ 19)
    → pushed side v e b kick turn
    ≡ arrived side (plus (turned (plus v (each (λ c. scaled c kick) e)) (each (λ c. scaled c turn) b)) (each (λ c. scaled c kick) e))
unfolding pushed
slow_arrives side v e b kick turn slow weak =
    let half_kick = each (λ c. scaled c kick) e in
    let kicked = plus v half_kick in
    let turn_by = each (λ c. scaled c turn) b in
    let new_v = plus (turned kicked turn_by) half_kick in
    let move = each (λ c. rounded c (pos velocity_unit)) new_v in
    let speed = none_above Speed (2 ^ 26) most_speed kicked (omega arith) slow in
    let turned_by = none_above Turn (2 ^ 19) most_turn turn_by (omega arith) weak in
    λ i. unless (option_or (speed i) (option_or (turned_by i) (first_above Far side move))) (record { v = new_v; d = move })
