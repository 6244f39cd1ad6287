-- A value that stands at one component alone, and its curl: the value stands at the four edges of the
-- face, once with either sign along each of the two other axes.
use Rattle.std.proofs.Common.{◌≡◌, ℕ, ◌≤◌, Bool, true, false, cond, eqb, inl, inr, refl, ap, unsigned_abs, arith}
use Rattle.std.proofs.Math.IntN.{ℤ, pos}
use Rattle.std.specs.Prelude.{◌&&◌}
use Rattle.std.proofs.lemmas.Bool.{cases_Bool, and_parts, eq-eqb, eqb-true}
use Rattle.std.proofs.lemmas.Int.{ints}
use Rattle.pic_num.specs.declared.axis.Axis.{Axis}
use Rattle.pic_num.specs.Space.{Triple, axis_number}
use Rattle.pic_num.proofs.AxisLaws.{same_axis_number}
use Rattle.pic_drive.specs.Drive.{is_cell, only_there}

-- the value is read back where it stands
pub only_same : (a : Axis) (p : Triple) (v : ℤ) → only_there a p v a p ≡ v
unfolding only_there
only_same a p v =
    let axis = eq-eqb (axis_number a) (axis_number a) refl in
    let x = eq-eqb p.x p.x refl in
    let y = eq-eqb p.y p.y refl in
    let z = eq-eqb p.z p.z refl in
    rw (axis, x, y, z)

is_there : (a : Axis) (p : Triple) (b : Axis) (q : Triple) → (eqb (axis_number b) (axis_number a) && is_cell q p) ≡ true → (b ≡ a) × (q ≡ p)
is_there a p b q h =
    let (axis, cell) = and_parts (eqb (axis_number b) (axis_number a)) (is_cell q p) h in
    let (x, rest) = and_parts (eqb q.x p.x) (eqb q.y p.y && eqb q.z p.z) cell in
    let (y, z) = and_parts (eqb q.y p.y) (eqb q.z p.z) rest in
    (same_axis_number b a (eqb-true _ _ axis), λ i. record { x = eqb-true _ _ x i; y = eqb-true _ _ y i; z = eqb-true _ _ z i })

-- and is 0 elsewhere
pub only_other : (a : Axis) (p : Triple) (v : ℤ) (b : Axis) (q : Triple) → ((b ≡ a) × (q ≡ p) → ⊥) → only_there a p v b q ≡ pos 0
unfolding only_there
only_other a p v b q apart =
    elim (cases_Bool (eqb (axis_number b) (axis_number a) && is_cell q p)) [
      | inl same ↦ absurd (apart (is_there a p b q same))
      | inr other ↦ ap (λ (t : Bool). cond t v (pos 0)) other
    ]

pub only_size : (a : Axis) (p : Triple) (v : ℤ) (b : Axis) (q : Triple) (most : ℕ) → unsigned_abs v ≤ most → unsigned_abs (only_there a p v b q) ≤ most
unfolding only_there
only_size a p v b q most small = either (eqb (axis_number b) (axis_number a) && is_cell q p)
  where
    either : (t : Bool) → unsigned_abs (cond t v (pos 0)) ≤ most
    either true = small
    either false = omega (arith, ints)
