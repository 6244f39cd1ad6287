-- A step without a stop keeps what the state of a run keeps.
use Rattle.std.proofs.Common.{◌≡◌, ℕ, suc, ◌<◌, ◌≤◌, None, sym, ap, ◌∙◌, subst, arith}
use Rattle.std.proofs.Math.IntN.{ℤ, ◌-ℤ◌}
use Rattle.std.specs.List.{range_with_len}
use Rattle.std.proofs.lemmas.Int.{ints}
use Rattle.pic_num.specs.Limits.{most_particles, most_steps}
use Rattle.pic_num.proofs.FirstLaws.{left_none, right_none}
use Rattle.pic_num.specs.declared.axis.Axis.{Axis}
use Rattle.pic_num.specs.Multiplier.{Multiplier}
use Rattle.pic_num.specs.Space.{Triple}
use Rattle.pic_block.specs.Cells.{IsCells}
use Rattle.pic_grid.specs.declared.stop.Phase.{Phase}
use Rattle.pic_grid.specs.declared.stop.Phase.TheVariants.{Half1, Half2, Electric}
use Rattle.pic_grid.specs.Lattice.{value_at, field_of}
use Rattle.pic_grid.specs.Hat.{HasTwo}
use Rattle.pic_grid.specs.PushPhase.{moved_all, push_stop}
use Rattle.pic_grid.proofs.LatticeLaws.{value_at-field_of}
use Rattle.pic_charge.specs.Charge.{rho_of}
use Rattle.pic_charge.specs.Gauss.{MeetsGauss}
use Rattle.pic_field.specs.FieldPhases.{full_of, driven_b, least_fault, IsBounded}
use Rattle.pic_field.proofs.FaultLaws.{least_fault-bounded}
use Rattle.pic_split.proofs.ImageLaws.{div_e_same}
use Rattle.pic_grid.specs.Parts.{origin}
use Rattle.pic_step.specs.SerialStep.{World, e_of, b_of, around, half_at, full_at, half_on, push_on}
use Rattle.pic_step.specs.SerialStep.{current_of, drive_of, before_electric, half_stop, full_stop, next_world, stop_of_step}
use Rattle.pic_grid.specs.Parts.{one_part}
use Rattle.pic_step.specs.Sound.{IsSafe, IsSound}
use Rattle.pic_advance.proofs.SamePhaseLaws.{above_origin}
use Rattle.pic_push.proofs.PushLaws.{ids_kept, length-moved_all, share_kept}
use Rattle.pic_step.proofs.VelocityLaws.{velocities_kept}
use Rattle.pic_step.proofs.GaussLaws.{div_current_of, div_full}

-- every grid has two cells on each axis
pub has_two : (n : Triple) → IsCells n → HasTwo n
has_two n h = record { x = h.x_least; y = h.y_least; z = h.z_least }

-- a field phase without a stop leaves a safe field
pub safe_after : (phase : Phase) (by : Multiplier) (side : ℕ) (n : Triple) (g : Axis → Triple → ℤ) → least_fault phase by origin n g ≡ None
    → IsSafe by (field_of side n one_part g)
safe_after phase by side n g none = record {
  bounded = λ a p within. subst (IsBounded by) (ap (g a) (above_origin p) ∙ sym (value_at-field_of side n one_part g a p within))
      (least_fault-bounded phase by origin n g none a p within);
}

-- the four phases have no stop
pub record HasNoStop (w : World) : Type 0 where
  pub half1 : half_stop Half1 w ≡ None
  pub push : push_stop (around (half_on w)) w.particles ≡ None
  pub half2 : half_stop Half2 (push_on (half_on w)) ≡ None
  pub electric : full_stop (current_of (half_on w)) (before_electric w) ≡ None

pub no_stop : (w : World) → stop_of_step w ≡ None → HasNoStop w
unfolding stop_of_step
no_stop w none =
    let second = right_none _ _ none in
    let third = right_none _ _ second in
    record { half1 = left_none _ _ none; push = left_none _ _ second; half2 = left_none _ _ third; electric = right_none _ _ third }

-- a state after another number of steps
abbrev pub at_step : ℕ → World → World
at_step k w = record w { step = k }

-- Gauss's law after a step, from a state that is sound but for its number of steps
pub gauss_kept : (w : World) (k : ℕ) → IsSound (at_step k w) → MeetsGauss w.side w.filter w.cells w.kinds (push_on (half_on w)).particles (e_of (next_world w))
unfolding next_world full_of
gauss_kept w k sound = record {
  at_node = λ p within.
      let n = w.cells in
      let h = half_on w in
      let w4 = before_electric w in
      let j = current_of h in
      let two = has_two n sound.cells in
      let above : 0 < w.side = omega (arith, sound.side_least) in
      let is_full = div_e_same n (value_at (field_of w.side n one_part (full_at j w4))) (full_at j w4) p within
      (λ a q inside. value_at-field_of w.side n one_part (full_at j w4) a q inside) in
      let falls = div_full n (value_at (e_of w)) (driven_b w.scales (b_of w4) (drive_of w)) j p in
      let old = sound.gauss.at_node p within in
      let law = div_current_of w p above two within sound.places in
      is_full ∙ falls ∙ (λ i. old i -ℤ law i)
      ∙ cancel (rho_of w.side w.filter n w.kinds w.particles p) (rho_of w.side w.filter n w.kinds (moved_all (around h) w.particles) p);
}
  where
    cancel : (a b : ℤ) → a -ℤ (a -ℤ b) ≡ b
    cancel a b = omega (arith, ints)

pub sound_at : (w : World) (k : ℕ) → k ≤ most_steps → IsSound w → IsSound (at_step k w)
sound_at w k few sound = record {
  reached = few;
  side_least = sound.side_least;
  side_most = sound.side_most;
  cells = sound.cells;
  filter = sound.filter;
  loops = sound.loops;
  e = sound.e;
  b = sound.b;
  kinds = sound.kinds;
  few = sound.few;
  ordered = sound.ordered;
  places = sound.places;
  velocities = sound.velocities;
  gauss = sound.gauss;
}

-- a step without a stop keeps all but the number of steps,
pub step_sound_at : (w : World) (k next : ℕ) → next ≤ most_steps → IsSound (at_step k w) → stop_of_step w ≡ None → IsSound (at_step next (next_world w))
unfolding next_world
step_sound_at w k next reached sound none =
    let n = w.cells in
    let h = half_on w in
    let stops = no_stop w none in
    let two = has_two n sound.cells in
    let above : 0 < w.side = omega (arith, sound.side_least) in
    let count = length-moved_all (around h) w.particles in
    record {
      reached = reached;
      side_least = sound.side_least;
      side_most = sound.side_most;
      cells = sound.cells;
      filter = sound.filter;
      loops = sound.loops;
      e = safe_after Electric w.scales.e_force w.side n (full_at (current_of h) (before_electric w)) stops.electric;
      b = safe_after Half2 w.scales.b_force w.side n (half_at (push_on h)) stops.half2;
      kinds = sound.kinds;
      few = subst (λ (m : ℕ). m ≤ most_particles) (sym count) sound.few;
      ordered = record { identities = ids_kept (around h) w.particles ∙ sound.ordered.identities ∙ ap (range_with_len 0) (sym count) };
      places = share_kept (around h) w.particles above two sound.places;
      velocities = velocities_kept (around h) w.particles sound.velocities;
      gauss = gauss_kept w k sound;
    }

-- which is one more, within the limit before the last
pub step_sound : (w : World) → IsSound w → w.step < most_steps → stop_of_step w ≡ None → IsSound (next_world w)
unfolding next_world
step_sound w sound early none = step_sound_at w w.step (suc w.step) (omega (arith, early)) sound none
