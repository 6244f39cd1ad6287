-- A step by its four calls: each leaves what the next one needs.
use Rattle.std.proofs.Common.{◌≡◌, ℕ, ℤ, suc, ◌<◌, List, Option, None, Result, Ok, sym, ap, ◌∙◌, subst}
use Rattle.pic_num.specs.Limits.{most_steps}
use Rattle.pic_num.specs.declared.motion.Particle.{Particle}
use Rattle.pic_num.specs.declared.axis.Axis.{Axis}
use Rattle.pic_num.specs.Space.{Triple}
use Rattle.pic_block.specs.Cells.{IsWithin}
use Rattle.pic_grid.specs.declared.stop.Phase.TheVariants.{Half1, Half2, Electric}
use Rattle.pic_grid.specs.declared.stop.Stop.{Stop}
use Rattle.pic_grid.specs.Lattice.{Field, value_at}
use Rattle.pic_grid.specs.Current.{current}
use Rattle.pic_grid.specs.Gather.{force_of}
use Rattle.pic_grid.specs.Parts.{one_part}
use Rattle.pic_grid.specs.PushPhase.{Surroundings, push_stop}
use Rattle.pic_filter.specs.Smoothing.{filtered}
use Rattle.pic_filter.proofs.FilteredLaws.{filtered_same}
use Rattle.pic_field.specs.FieldPhases.{half_of, full_of}
use Rattle.pic_tile.specs.CoreState.{all_particles}
use Rattle.pic_tile.specs.Tile.{TileValue}
use Rattle.pic_tile.specs.Tiling.{Tiling}
use Rattle.pic_step.specs.TileFlux.{flux_in}
use Rattle.pic_step.specs.PushOn.{around_fields, ArePushed}
use Rattle.pic_step.specs.SerialStep.{World, e_of, b_of, around, half_at, full_at, half_on, push_on}
use Rattle.pic_step.specs.SerialStep.{current_of, drive_of, before_electric, half_stop, next_world, stop_of_step, stepped}
use Rattle.pic_step.specs.Sound.{IsSafe, IsSound}
use Rattle.pic_step.specs.Keeps.{Keeps}
use Rattle.pic_step.proofs.ExitLaws.{no_stop_is, steps_on}
use Rattle.pic_step.proofs.KeepLaws.{step_keeps}
use Rattle.pic_step.proofs.OnePartLaws.{Advanced, advanced_same, as_one}
use Rattle.pic_step.proofs.SoundLaws.{safe_after, step_sound}

-- values as a lattice of one part, on the grid of a state
abbrev pub on_grid : World → List ℤ → Field
on_grid w values = record { cells = w.cells; side = w.side; parts = one_part; values = values }

-- what the first half step of B leaves
pub record IsHalf (w : World) (b : List ℤ) : Type 0 where
  pub is : b ≡ (half_on w).b
  pub none : half_stop Half1 w ≡ None

pub is_half : (w : World) (b : List ℤ) → Advanced Half1 w.scales.b_force w.cells (half_at w) (Ok b) → IsHalf w b
is_half w b done = record { is = done.0; none = done.1 }

pub half_safe : (w : World) (b : List ℤ) → IsHalf w b → IsSafe w.scales.b_force (on_grid w b)
half_safe w b half = subst (λ (v : List ℤ). IsSafe w.scales.b_force (on_grid w v)) (sym half.is)
    (safe_after Half1 w.scales.b_force w.side w.cells (half_at w) half.none)

-- the push is that of the definition
around_is : (w : World) (e c : Field) → as_one e ≡ e_of w → as_one c ≡ b_of (half_on w) → around_fields w.scales w.kinds e c ≡ around (half_on w)
around_is w e c is_e is_c = λ i. record {
  side = (is_e i).side;
  cells = (is_e i).cells;
  kinds = w.kinds;
  of_e = force_of w.scales.e_force (value_at (is_e i));
  of_b = force_of w.scales.b_force (value_at (is_c i));
}

pub pushed_on : (w : World) (e c : Field) (m : Tiling) (tiles : List TileValue) (stop : Option Stop) → as_one e ≡ e_of w → as_one c ≡ on_grid w c.values
    → IsHalf w c.values → ArePushed (around_fields w.scales w.kinds e c) m w.particles tiles stop → ArePushed (around (half_on w)) m w.particles tiles stop
pushed_on w e c m tiles stop is_e is_c half = subst (λ (s : Surroundings). ArePushed s m w.particles tiles stop)
    (around_is w e c is_e (is_c ∙ ap (on_grid w) half.is))

-- what the second half step of B leaves
pub record IsBefore (w : World) (b : List ℤ) : Type 0 where
  pub is : b ≡ (before_electric w).b
  pub none : half_stop Half2 (push_on (half_on w)) ≡ None

-- it begins where the first one ended
pub second_half : (w : World) (b : List ℤ) (r : Result (List ℤ) Stop) → IsHalf w b
    → Advanced Half2 w.scales.b_force w.cells (λ a p. half_of w.scales (e_of w) a p (value_at (on_grid w b) a p)) r
    → Advanced Half2 w.scales.b_force w.cells (half_at (push_on (half_on w))) r
second_half w b r half = subst (λ (v : List ℤ).
    Advanced Half2 w.scales.b_force w.cells (λ a p. half_of w.scales (e_of w) a p (value_at (on_grid w v) a p)) r) half.is

pub is_before : (w : World) (c : List ℤ) → Advanced Half2 w.scales.b_force w.cells (half_at (push_on (half_on w))) (Ok c) → IsBefore w c
is_before w c done = record { is = done.0; none = done.1 }

pub before_safe : (w : World) (b : List ℤ) → IsBefore w b → IsSafe w.scales.b_force (on_grid w b)
before_safe w b before = subst (λ (v : List ℤ). IsSafe w.scales.b_force (on_grid w v)) (sym before.is)
    (safe_after Half2 w.scales.b_force w.side w.cells (half_at (push_on (half_on w))) before.none)

-- the flux is the current of the push
abbrev pub IsCurrent : World → (Axis → Triple → ℤ) → Type 0
IsCurrent w j = (a : Axis) (p : Triple) → IsWithin p w.cells → j a p ≡ current_of (half_on w) a p

-- that of tiles is, filtered where the current is
abbrev pub filtered_flux : World → Tiling → List TileValue → Axis → Triple → ℤ
filtered_flux w m tiles a = filtered w.filter w.cells (flux_in m tiles a)

pub flux_is : (w : World) (m : Tiling) (tiles : List TileValue) (stop : Option Stop) → ArePushed (around (half_on w)) m w.particles tiles stop
    → IsCurrent w (filtered_flux w m tiles)
flux_is w m tiles stop pushed a = filtered_same w.filter w.cells (flux_in m tiles a) (current (around (half_on w)) w.particles a) (pushed.current_is a)

-- E by that flux is E by the current
abbrev pub by_flux : World → List ℤ → (Axis → Triple → ℤ) → Axis → Triple → ℤ
by_flux w b j a p = full_of w.scales (on_grid w b) (drive_of w) a p (value_at (e_of w) a p) (j a p)

-- by whatever names for the filter and the cells
pub by_filter : (w : World) (b : List ℤ) (m : Tiling) (tiles : List TileValue) (r : Result (List ℤ) Stop) (filter : ℕ) (n : Triple)
    → filter ≡ w.filter → n ≡ w.cells
    → Advanced Electric w.scales.e_force w.cells (by_flux w b (λ a. filtered filter n (flux_in m tiles a))) r
    → Advanced Electric w.scales.e_force w.cells (by_flux w b (filtered_flux w m tiles)) r
by_filter w b m tiles r filter n same_filter same_cells done =
    subst (λ (k : Triple). Advanced Electric w.scales.e_force w.cells (by_flux w b (λ a. filtered w.filter k (flux_in m tiles a))) r) same_cells
    (subst (λ (f : ℕ). Advanced Electric w.scales.e_force w.cells (by_flux w b (λ a. filtered f n (flux_in m tiles a))) r) same_filter done)

pub last_step : (w : World) (b : List ℤ) (j : Axis → Triple → ℤ) (r : Result (List ℤ) Stop) → IsBefore w b → IsCurrent w j
    → Advanced Electric w.scales.e_force w.cells (by_flux w b j) r
    → Advanced Electric w.scales.e_force w.cells (full_at (current_of (half_on w)) (before_electric w)) r
last_step w b j r before is = advanced_same Electric w.scales.e_force w.cells (by_flux w b j) (full_at (current_of (half_on w)) (before_electric w)) r
    (λ a p within. λ i. full_of w.scales (on_grid w (before.is i)) (drive_of w) a p (value_at (e_of w) a p) (is a p within i))

-- the state after the step
pub record IsAfter (w : World) (e b : List ℤ) (particles : List Particle) : Type 0 where
  pub none : stop_of_step w ≡ None
  pub is : record w { step = suc w.step; e = e; b = b; particles = particles } ≡ next_world w

pub is_after : (w : World) (b c e : List ℤ) (m : Tiling) (tiles : List TileValue) (particles : List Particle) → IsHalf w b
    → ArePushed (around (half_on w)) m w.particles tiles None → IsBefore w c → particles ≡ all_particles tiles
    → Advanced Electric w.scales.e_force w.cells (by_flux w c (filtered_flux w m tiles)) (Ok e) → IsAfter w e c particles
unfolding next_world
is_after w b c e m tiles particles half pushed before same done =
    let free : push_stop (around (half_on w)) w.particles ≡ None = sym pushed.stop_is in
    let last = last_step w c (filtered_flux w m tiles) (Ok e) before (flux_is w m tiles None pushed) done in
    let moved : particles ≡ (before_electric w).particles = same ∙ pushed.particles in
    record {
      none = no_stop_is w half.none free before.none last.1;
      is = λ i. record w { step = suc w.step; e = last.0 i; b = before.is i; particles = moved i };
    }

pub sound_after : (w : World) (e b : List ℤ) (particles : List Particle) → IsSound w → w.step < most_steps → IsAfter w e b particles
    → IsSound (record w { step = suc w.step; e = e; b = b; particles = particles })
sound_after w e b particles sound early after = subst IsSound (sym after.is) (step_sound w sound early after.none)

pub stepped_after : (w : World) (e b : List ℤ) (particles : List Particle) → IsAfter w e b particles
    → stepped w ≡ Ok (record w { step = suc w.step; e = e; b = b; particles = particles })
stepped_after w e b particles after = steps_on w after.none ∙ ap (λ (v : World). Ok v) (sym after.is)

pub keeps_after : (w : World) (e b : List ℤ) (particles : List Particle) → IsSound w → IsAfter w e b particles
    → Keeps w (record w { step = suc w.step; e = e; b = b; particles = particles })
keeps_after w e b particles sound after = subst (Keeps w) (sym after.is) (step_keeps w sound)
