-- The velocities that pushes keep.
use Rattle.std.proofs.Common.{◌≡◌, ℕ, ◌≤◌, List, Result, Ok, Err, refl, subst, arith}
use Rattle.std.proofs.Math.IntN.{ℤ, pos, ◌-ℤ◌}
use Rattle.std.specs.Prelude.{unsigned_abs, ◌<ℤ◌, ◌≤ℤ◌, All}
use Rattle.std.proofs.lemmas.Int.{ints}
use Rattle.pic_num.specs.Limits.{velocity_unit}
use Rattle.pic_num.specs.declared.motion.Particle.{Particle}
use Rattle.pic_num.specs.declared.motion.What.TheVariants.{Far}
use Rattle.pic_num.specs.declared.axis.Axis.{Axis}
use Rattle.pic_num.specs.declared.axis.Axis.TheVariants.{X, Y, Z}
use Rattle.pic_num.specs.Push.{Shift, Halting, each, pushed}
use Rattle.pic_num.specs.Rounding.{rounded}
use Rattle.pic_num.specs.Space.{Spot, spot, along}
use Rattle.pic_num.specs.Velocity.{too_fast, IsKeptVelocity, PushKeepsVelocities}
use Rattle.pic_num.proofs.FirstLaws.{right_none}
use Rattle.pic_num.proofs.RoundingLaws.{rounded-is}
use Rattle.pic_grid.specs.PushPhase.{Surroundings, push_of, after_push, moved, moved_all}
use Rattle.pic_push.proofs.PushLaws.{none_above, unless_ok, all_kept}

-- a velocity whose rounded move is at most a side
on_axis : (side : ℕ) (v : ℤ) → unsigned_abs (rounded v (pos velocity_unit)) ≤ side
    → ((pos 0 -ℤ pos (too_fast side)) ≤ℤ v) × (v <ℤ pos (too_fast side))
on_axis side v size =
    let is = rounded-is v (pos velocity_unit) (omega (arith, ints)) in (omega (arith, ints, is.above, size), omega (arith, ints, is.below, size))

by_axis : (side : ℕ) (v : Spot) → ((a : Axis) → unsigned_abs (along a (each (λ c. rounded c (pos velocity_unit)) v)) ≤ side)
    → (a : Axis) → ((pos 0 -ℤ pos (too_fast side)) ≤ℤ along a v) × (along a v <ℤ pos (too_fast side))
by_axis side v far X = on_axis side v.x (far X)
by_axis side v far Y = on_axis side v.y (far Y)
by_axis side v far Z = on_axis side v.z (far Z)

kept_of : (side : ℕ) (v : Spot) → ((a : Axis) → unsigned_abs (along a (each (λ c. rounded c (pos velocity_unit)) v)) ≤ side) → IsKeptVelocity side v
kept_of side v far = record { least = λ a. (by_axis side v far a).0; most = λ a. (by_axis side v far a).1 }

pub keeps_velocities : PushKeepsVelocities
unfolding pushed
keeps_velocities side v e b kick turn s h =
    let both = unless_ok _ _ s h in
    let far = none_above Far side _ (right_none _ _ (right_none _ _ both.0)) in
    subst (λ (t : Shift). IsKeptVelocity side t.v) both.1 (kept_of side _ far)

one_kept : (w : Surroundings) (particle : Particle) (r : Result Shift Halting) → push_of w particle ≡ r
    → IsKeptVelocity w.side (spot particle.v) → IsKeptVelocity w.side (spot (after_push w.side w.cells particle r).v)
unfolding push_of after_push moved
one_kept w particle (Ok s) is slow = keeps_velocities w.side _ _ _ _ _ s is
one_kept w particle (Err h) is slow = slow

-- the push of particles whose velocities are kept ones
pub velocities_kept : (w : Surroundings) (particles : List Particle)
    → All (λ particle. IsKeptVelocity w.side (spot particle.v)) particles → All (λ particle. IsKeptVelocity w.side (spot particle.v)) (moved_all w particles)
velocities_kept w particles = all_kept w (λ particle. IsKeptVelocity w.side (spot particle.v)) particles
    (λ particle slow. one_kept w particle (push_of w particle) refl slow)
