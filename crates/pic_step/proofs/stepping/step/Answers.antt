use Rattle.std.proofs.Common.{◌≡◌, true, ℕ, ℤ, suc, ◌+◌, ◌<◌, List, All, refl, sym, ap, ◌∙◌, subst, Result, Ok, Err, None, Option, arith}
use Rattle.std.proofs.lemmas.Result.{IfOk-from_err, err_from_is_err_and}
use Rattle.pic_num.specs.Limits.{most_loops, most_steps, most_value}
use Rattle.pic_num.specs.Multiplier.{Multiplier}
use Rattle.pic_num.specs.declared.axis.Axis.{Axis}
use Rattle.pic_num.specs.Push.{unless}
use Rattle.pic_num.specs.Space.{Triple}
use Rattle.pic_filter.specs.Smoothing.{filtered, filter_in}
use Rattle.pic_grid.specs.declared.stop.Phase.TheVariants.{Half1, Half2, Electric}
use Rattle.pic_grid.specs.declared.stop.Stop.{Stop}
use Rattle.pic_grid.specs.declared.loops.Loop.{Loop}
use Rattle.pic_grid.specs.Differences.{curl_b}
use Rattle.pic_grid.specs.Gather.{force_of}
use Rattle.pic_grid.specs.Lattice.{Field, EachAtMost, value_at, field_of}
use Rattle.pic_grid.specs.PushPhase.{Surroundings, moved_all}
use Rattle.pic_grid.specs.Loops.{AreLoops}
use Rattle.pic_drive.specs.Drive.{driven, plus}
use Rattle.pic_advance.specs.Halves.{HalfStep, between}
use Rattle.pic_tile.specs.CoreState.{all_particles}
use Rattle.pic_tile.specs.Tiling.{Tiling, cells_of}
use Rattle.pic_step.specs.declared.state.State.TheInside.{Inside}
use Rattle.pic_step.specs.declared.stepping.StepStop.{StepStop}
use Rattle.pic_step.specs.TileFlux.{flux_in}
use Rattle.pic_step.specs.Keeps.{Keeps}
use Rattle.pic_step.specs.Kept.{IsCut, AreCut, IsKept, seen}
use Rattle.pic_step.specs.declared.plasma.Plasma.{Plasma}
use Rattle.pic_step.specs.Plasma.{IsPlasma}
use Rattle.pic_step.specs.Halved.{forced_by}
use Rattle.pic_step.specs.PushOn.{around_fields, CanPush, HasForces, ArePushed, HasPushed}
use Rattle.pic_step.specs.SerialRun.{Steps}
use Rattle.pic_step.specs.SerialStep.{World, around, drive_of, half_on, half_stop, stepped}
use Rattle.pic_step.specs.Sound.{IsSafe, IsSound}
use Rattle.pic_step.specs.StateView.{StateView}
use Rattle.pic_step.specs.Tracers.{IsOf, identities}
use Rattle.pic_step.proofs.ExitLaws.{stops_first, stops_push, stops_second, stops_last, wants_none, stop_wants_none, state_wants_none}
use Rattle.pic_step.proofs.KeptLaws.{can_push, next_is}
use Rattle.pic_step.proofs.OnePartLaws.{whole, whole_is, half_one, driven_one, plus_cut, cut_after, advanced_is, safe_parts, safe_small}
use Rattle.pic_step.proofs.StepLaws.{IsHalf, is_half, pushed_on, IsBefore, second_half, is_before}
use Rattle.pic_step.proofs.StepLaws.{before_safe, filtered_flux, flux_is, by_filter, last_step, IsAfter, is_after, sound_after, stepped_after, keeps_after}
use Rattle.pic_step.proofs.TracerLaws.{still_of, same_identities}
use Rattle.pic_step.proofs.stepping.step.Given.{Over}
use Rattle.pic_step.proofs.stepping.step.Goals as goal
use Rattle.pic_step.proofs.stepping.step.Goals.{In_ok-b, In_ok-pushed, In-None, In-None-late, After-raise_e, In-Ok}

-- the state before the step, and the map of its tiles
abbrev world : Inside → World
world k = seen k.step k.loops k.scales k.e k.b k.plasma

abbrev tiles_map : Inside → Tiling
tiles_map k = k.plasma.frame.map

abbrev Keeping : Inside → Type 0
Keeping k = IsKept k.step k.loops k.scales k.e k.b k.plasma

-- no value of E or B is too large, and none of a lattice on their cells whose values are safe
small : (k : Inside) (by : Multiplier) (f : Field) → IsCut (tiles_map k) f → IsSafe by (whole (tiles_map k) f.values)
    → EachAtMost most_value f
small k by f cut safe = safe_small by f (safe_parts (tiles_map k) by f cut safe)

e_small : (k : Inside) → Keeping k → EachAtMost most_value k.e
e_small k keeps = small k k.scales.e_force k.e keeps.cut.of_e keeps.sound.e

-- B between both half steps, cut as B is,
abbrev mid : Inside → Field
mid k = between k.scales k.e k.b

mid_cut : (k : Inside) → Keeping k → IsCut (tiles_map k) (mid k)
mid_cut k keeps = record { cells = keeps.cut.of_e.cells; side = keeps.cut.of_e.side; parts = keeps.cut.of_b.parts }

half : (g : Over) (c : In_ok-b g) → IsHalf (world c.state.inside) (mid c.state.inside).values
half g c =
    let k = c.state.inside in
    let cut = c.state.invariant.cut in
    is_half (world k) (mid k).values (half_one Half1 (tiles_map k) k.scales k.e k.b (Ok (mid k)) cut.of_e cut.of_b c.in_ok-b.ensures.0)

-- and the particles with its force values
abbrev ready : Inside → Plasma
ready k = record k.plasma { frame = forced_by k.scales (mid k) k.plasma.frame }

mid_forces : (k : Inside) → Keeping k → HasForces k.scales (mid k) (ready k).frame
mid_forces k keeps =
    let l = mid_cut k keeps in
    record { forces = λ i. field_of (l.side i) (l.cells i) (l.parts i) (force_of k.scales.b_force (value_at (mid k))) }

abbrev push_around : Inside → Surroundings
push_around k = around_fields k.scales k.plasma.frame.kinds k.e (mid k)

-- what the push left
has_pushed : (g : Over) (c : In_ok-pushed g) → HasPushed (push_around c.state.inside) (ready c.state.inside) c.in_ok-pushed.pushed.0 c.in_ok-pushed.pushed.1
has_pushed g c =
    let k = c.state.inside in
    subst (λ (p : Plasma). HasPushed (around_fields k.scales p.frame.kinds k.e (mid k)) p c.in_ok-pushed.pushed.0 c.in_ok-pushed.pushed.1) c.in_ok-b.ensures.1
    (c.in_ok-pushed.ensures.pushed (mid k)
    (subst (λ (p : Plasma). HasForces k.scales (mid k) p.frame) (sym c.in_ok-b.ensures.1) (mid_forces k c.state.invariant)))

tracers_pushed : (g : Over) (c : In_ok-pushed g) → c.in_ok-pushed.pushed.0.tracers.items
    ≡ moved_all (push_around c.state.inside) c.state.inside.plasma.tracers.items
tracers_pushed g c =
    let k = c.state.inside in
    subst (λ (p : Plasma). c.in_ok-pushed.pushed.0.tracers.items ≡ moved_all (around_fields k.scales p.frame.kinds k.e (mid k)) p.tracers.items)
    c.in_ok-b.ensures.1
    (c.in_ok-pushed.ensures.tracers (mid k)
    (subst (λ (p : Plasma). HasForces k.scales (mid k) p.frame) (sym c.in_ok-b.ensures.1) (mid_forces k c.state.invariant)))

pushed : (g : Over) (c : In_ok-pushed g) → IsHalf (world c.state.inside) (mid c.state.inside).values
    → ArePushed (around (half_on (world c.state.inside))) c.in_ok-pushed.pushed.0.frame.map (world c.state.inside).particles
    c.in_ok-pushed.pushed.0.tiles.items c.in_ok-pushed.pushed.1
pushed g c first =
    let k = c.state.inside in
    let q = c.in_ok-pushed.pushed.0 in
    pushed_on (world k) k.e (mid k) q.frame.map q.tiles.items c.in_ok-pushed.pushed.1 (whole_is (tiles_map k) k.e c.state.invariant.cut.of_e)
    (whole_is (tiles_map k) (mid k) (mid_cut k c.state.invariant)) first (has_pushed g c).pushed

unstopped : (g : Over) (c : In-None g) → ArePushed (around (half_on (world c.state.inside))) c.in_ok-pushed.pushed.0.frame.map
    (world c.state.inside).particles c.in_ok-pushed.pushed.0.tiles.items c.in_ok-pushed.pushed.1
    → ArePushed (around (half_on (world c.state.inside))) c.in_ok-pushed.pushed.0.frame.map (world c.state.inside).particles
    c.in_ok-pushed.pushed.0.tiles.items None
unstopped g c = subst (λ (o : Option Stop). ArePushed (around (half_on (world c.state.inside))) c.in_ok-pushed.pushed.0.frame.map
    (world c.state.inside).particles c.in_ok-pushed.pushed.0.tiles.items o) c.in-None.is

-- what the second half step of B left
second : (g : Over) (c : In-None-late g) → HalfStep Half2 c.state.inside.scales c.state.inside.e (mid c.state.inside) (Ok c.in_ok-b.field-0.b)
second g c =
    let k = c.state.inside in
    subst (λ (o : Option Stop). HalfStep Half2 k.scales k.e (mid k) (unless o c.in_ok-b.field-0.b)) c.in-None-late.is c.in_ok-b.ensures.2

before : (g : Over) (c : In-None-late g) → IsHalf (world c.state.inside) (mid c.state.inside).values
    → IsBefore (world c.state.inside) c.in_ok-b.field-0.b.values
before g c first =
    let k = c.state.inside in
    is_before (world k) c.in_ok-b.field-0.b.values (second_half (world k) (mid k).values (Ok c.in_ok-b.field-0.b.values) first
    (half_one Half2 (tiles_map k) k.scales k.e (mid k) (Ok c.in_ok-b.field-0.b) c.state.invariant.cut.of_e (mid_cut k c.state.invariant) (second g c)))

before_cut : (g : Over) (c : In-None-late g) → IsCut (tiles_map c.state.inside) c.in_ok-b.field-0.b
before_cut g c =
    let k = c.state.inside in
    cut_after (tiles_map k) k.e (mid k) c.in_ok-b.field-0.b _ c.state.invariant.cut.of_e (mid_cut k c.state.invariant) (second g c).0

-- E with the current of the loops
raised : (g : Over) (c : After-raise_e g) → c.raise_e.new.e ≡ plus c.state.inside.e (curl_b c.state.inside.e.cells (drive_of (world c.state.inside)))
raised g c =
    let k = c.state.inside in
    c.raise_e.ensures.values ∙ ap (λ (ls : List Loop). plus k.e (curl_b k.e.cells (driven ls k.step))) c.as_slice.ensures

raised_cut : (g : Over) (c : After-raise_e g) → IsCut (tiles_map c.state.inside) c.raise_e.new.e
raised_cut g c =
    let k = c.state.inside in
    plus_cut (tiles_map k) k.e c.raise_e.new.e (curl_b k.e.cells (drive_of (world k))) c.state.invariant.cut.of_e (raised g c)

pub raise_e-requires-clause-loops : goal.raise_e-requires-clause-loops
raise_e-requires-clause-loops g c =
    let k = c.state.inside in
    subst (λ (ls : List Loop). AreLoops k.e.cells most_loops ls) (sym c.as_slice.ensures)
    (subst (λ (n : Triple). AreLoops n most_loops k.loops) (sym c.state.invariant.cut.of_e.cells) c.state.invariant.sound.loops)

pub raise_e-requires-clause-small : goal.raise_e-requires-clause-small
raise_e-requires-clause-small g c = e_small c.state.inside c.state.invariant

-- the flux by which E takes its step
abbrev left_flux : Field → Plasma → Axis → Triple → ℤ
left_flux b q a = filtered (filter_in q.smooth) b.cells (flux_in q.frame.map q.tiles.items a)

-- and the step of E: the state after the step
after : (g : Over) (c : In-Ok g) → IsHalf (world c.state.inside) (mid c.state.inside).values
    → HasPushed (push_around c.state.inside) (ready c.state.inside) c.in_ok-pushed.pushed.0 c.in_ok-pushed.pushed.1
    → ArePushed (around (half_on (world c.state.inside))) c.in_ok-pushed.pushed.0.frame.map (world c.state.inside).particles
    c.in_ok-pushed.pushed.0.tiles.items None
    → IsCut (tiles_map c.state.inside) c.in_ok-b.field-0.b → IsBefore (world c.state.inside) c.in_ok-b.field-0.b.values
    → c.raise_e.new.e ≡ plus c.state.inside.e (curl_b c.state.inside.e.cells (drive_of (world c.state.inside)))
    → IsAfter (world c.state.inside) c.in-Ok.e.values c.in_ok-b.field-0.b.values (all_particles c.advance_e-e.result.1.tiles.items)
after g c first moved free of_b second driven_e =
    let k = c.state.inside in
    let q = c.in_ok-pushed.pushed.0 in
    let b = c.in_ok-b.field-0.b in
    is_after (world k) (mid k).values b.values c.in-Ok.e.values q.frame.map q.tiles.items
    (all_particles c.advance_e-e.result.1.tiles.items) first free second c.advance_e-e.ensures.particles
    (by_filter (world k) b.values q.frame.map q.tiles.items (Ok c.in-Ok.e.values) (filter_in q.smooth) b.cells
    (ap filter_in moved.smooth) of_b.cells
    (driven_one (tiles_map k) k.scales b k.e c.raise_e.new.e (drive_of (world k)) (left_flux b q) _ (Ok c.in-Ok.e) c.in-Ok.is
    of_b c.state.invariant.cut.of_e driven_e c.advance_e-e.ensures.fields))

-- the state after the step, by its parts
next : (g : Over) (c : In-Ok g) → HasPushed (push_around c.state.inside) (ready c.state.inside) c.in_ok-pushed.pushed.0 c.in_ok-pushed.pushed.1
    → record (world c.state.inside) {
      step = suc c.state.inside.step;
      e = c.in-Ok.e.values;
      b = c.in_ok-b.field-0.b.values;
      particles = all_particles c.advance_e-e.result.1.tiles.items;
    } ≡ seen (c.state.inside.step + 1) c.state.inside.loops c.state.inside.scales c.in-Ok.e c.in_ok-b.field-0.b c.advance_e-e.result.1
next g c moved =
    let k = c.state.inside in
    let frame = c.advance_e-e.ensures.frame in
    next_is k.step (k.step + 1) k.loops k.scales k.e k.b c.in-Ok.e c.in_ok-b.field-0.b k.plasma c.advance_e-e.result.1 (omega arith)
    (ap (λ f. f.map) frame ∙ moved.map) (c.advance_e-e.ensures.filter ∙ ap filter_in moved.smooth)
    (ap (λ f. f.kinds) frame ∙ moved.kinds)

pub returns-in_err-b-clause-steps : goal.returns-in_err-b-clause-steps
returns-in_err-b-clause-steps g c =
    let k = c.state.inside in
    let w = world k in
    let cut = c.state.invariant.cut in
    let exit = err_from_is_err_and c.from_residual.result c.from_residual.ensures.1 in
    subst (λ (r : Result StateView StepStop). Steps c.args.state.world r) (sym (exit.1 ∙ ap Err exit.2))
    (ap (λ (v : StateView). stepped v.world) (sym c.state.view_is)
    ∙ stops_first w _ (half_one Half1 (tiles_map k) k.scales k.e k.b (Err _) cut.of_e cut.of_b c.in_err-b.ensures))

pub of-workers-requires-clause-some : goal.of-workers-requires-clause-some
of-workers-requires-clause-some g c = c.requires.some

pub of-workers-requires-clause-most : goal.of-workers-requires-clause-most
of-workers-requires-clause-most g c = c.requires.most

pub halve_b-requires-clause-cut : goal.halve_b-requires-clause-cut
halve_b-requires-clause-cut g c κs within = c.state.invariant.cut

pub halve_b-requires-clause-parts : goal.halve_b-requires-clause-parts
halve_b-requires-clause-parts g c κs within = c.state.invariant.plasma.parts

pub halve_b-requires-clause-e_small : goal.halve_b-requires-clause-e_small
halve_b-requires-clause-e_small g c κs within = e_small c.state.inside c.state.invariant

pub halve_b-requires-clause-b_small : goal.halve_b-requires-clause-b_small
halve_b-requires-clause-b_small g c κs within =
    let k = c.state.inside in small k k.scales.b_force k.b c.state.invariant.cut.of_b c.state.invariant.sound.b

pub push_phase-requires-clause-can : goal.push_phase-requires-clause-can
push_phase-requires-clause-can g c κs within =
    let k = c.state.inside in
    subst (CanPush k.scales k.e) (sym c.in_ok-b.ensures.1) (can_push k.step k.loops k.scales k.e k.b (mid k) k.plasma c.state.invariant)

pub returns-in_err-pushed-clause-steps : goal.returns-in_err-pushed-clause-steps
returns-in_err-pushed-clause-steps g c =
    let exit = err_from_is_err_and c.from_residual-in_err-pushed.result c.from_residual-in_err-pushed.ensures.1 in
    subst (λ (r : Result StateView StepStop). Steps c.args.state.world r) (sym (exit.1 ∙ ap Err exit.2)) tt

pub returns-in-Some-clause-steps : goal.returns-in-Some-clause-steps
returns-in-Some-clause-steps g c =
    let at = goal.at.returns-in-Some-clause-steps g c in
    let first = half g at.In_ok-b in
    ap (λ (v : StateView). stepped v.world) (sym c.state.view_is)
    ∙ stops_push (world c.state.inside) c.in-Some.stop first.none (sym (pushed g at.In_ok-pushed first).stop_is ∙ c.in-Some.is)

pub returns-in-Some-late-clause-steps : goal.returns-in-Some-late-clause-steps
returns-in-Some-late-clause-steps g c =
    let k = c.state.inside in
    let w = world k in
    let at = goal.at.returns-in-Some-late-clause-steps g c in
    let first = half g at.In_ok-b in
    let free = unstopped g at.In-None (pushed g at.In_ok-pushed first) in
    let stop : HalfStep Half2 k.scales k.e (mid k) (Err c.in-Some-late.stop) =
    subst (λ (o : Option Stop). HalfStep Half2 k.scales k.e (mid k) (unless o c.in_ok-b.field-0.b)) c.in-Some-late.is c.in_ok-b.ensures.2 in
    ap (λ (v : StateView). stepped v.world) (sym c.state.view_is)
    ∙ stops_second w _ first.none (sym free.stop_is) (second_half w (mid k).values (Err _) first
    (half_one Half2 (tiles_map k) k.scales k.e (mid k) (Err _) c.state.invariant.cut.of_e (mid_cut k c.state.invariant) stop))

pub advance_e-e-requires-clause-flux : goal.advance_e-e-requires-clause-flux
advance_e-e-requires-clause-flux g c κs within = (has_pushed g (goal.at.advance_e-e-requires-clause-flux g c).In_ok-pushed).flux

-- E takes its step on the cells of the map
pub advance_e-e-requires-clause-b_cells : goal.advance_e-e-requires-clause-b_cells
advance_e-e-requires-clause-b_cells g c κs within =
    let at = goal.at.advance_e-e-requires-clause-b_cells g c in
    (before_cut g at.In-None-late).cells ∙ sym (ap cells_of (has_pushed g at.In_ok-pushed).map)

pub advance_e-e-requires-clause-e_cells : goal.advance_e-e-requires-clause-e_cells
advance_e-e-requires-clause-e_cells g c κs within =
    let at = goal.at.advance_e-e-requires-clause-e_cells g c in
    (raised_cut g at.After-raise_e).cells ∙ sym (ap cells_of (has_pushed g at.In_ok-pushed).map)

pub advance_e-e-requires-clause-b_small : goal.advance_e-e-requires-clause-b_small
advance_e-e-requires-clause-b_small g c κs within =
    let k = c.state.inside in
    let at = goal.at.advance_e-e-requires-clause-b_small g c in
    small k k.scales.b_force c.in_ok-b.field-0.b (before_cut g at.In-None-late)
    (before_safe (world k) c.in_ok-b.field-0.b.values (before g at.In-None-late (half g at.In_ok-b)))

pub advance_e-e-requires-clause-e_small : goal.advance_e-e-requires-clause-e_small
advance_e-e-requires-clause-e_small g c κs within = c.raise_e.ensures.small

pub returns-in-Err-clause-steps : goal.returns-in-Err-clause-steps
returns-in-Err-clause-steps g c =
    let k = c.state.inside in
    let w = world k in
    let q = c.in_ok-pushed.pushed.0 in
    let b = c.in_ok-b.field-0.b in
    let at = goal.at.returns-in-Err-clause-steps g c in
    let first = half g at.In_ok-b in
    let free = unstopped g at.In-None (pushed g at.In_ok-pushed first) in
    let of_b = before_cut g at.In-None-late in
    let late = before g at.In-None-late first in
    ap (λ (v : StateView). stepped v.world) (sym c.state.view_is)
    ∙ stops_last w _ first.none (sym free.stop_is) late.none
    (last_step w b.values (filtered_flux w q.frame.map q.tiles.items) (Err _) late (flux_is w q.frame.map q.tiles.items None free)
    (by_filter w b.values q.frame.map q.tiles.items (Err _) (filter_in q.smooth) b.cells
    (ap filter_in (has_pushed g at.In_ok-pushed).smooth) of_b.cells
    (driven_one (tiles_map k) k.scales b k.e c.raise_e.new.e (drive_of w) (left_flux b q) _ (Err _) c.in-Err.is of_b
    c.state.invariant.cut.of_e (raised g at.After-raise_e) c.advance_e-e.ensures.fields)))

-- the step isn't the last that a run may have
early : (g : Over) (c : In-Ok g) → c.state.inside.step < most_steps
early g c = subst (λ (v : StateView). v.world.step < most_steps) (sym c.state.view_is) c.requires.early

pub invariant_of-result : goal.invariant_of-result
invariant_of-result g c =
    let k = c.state.inside in
    let w = world k in
    let q = c.advance_e-e.result.1 in
    let b = c.in_ok-b.field-0.b in
    let at = goal.at.invariant_of-result g c in
    let first = half g at.In_ok-b in
    let moved = has_pushed g at.In_ok-pushed in
    let free = unstopped g at.In-None (pushed g at.In_ok-pushed first) in
    let of_b = before_cut g at.In-None-late in
    let same : tiles_map k ≡ q.frame.map = sym (ap (λ f. f.map) c.advance_e-e.ensures.frame ∙ moved.map) in
    record {
      sound = subst IsSound (next g at.In-Ok moved)
          (sound_after w c.in-Ok.e.values b.values _ c.state.invariant.sound (early g at.In-Ok)
          (after g at.In-Ok first moved free of_b (before g at.In-None-late first) (raised g at.After-raise_e)));
      cut = subst (λ (m : Tiling). AreCut m c.in-Ok.e b) same (record {
        of_e = cut_after (tiles_map k) b c.raise_e.new.e c.in-Ok.e _ of_b (raised_cut g at.After-raise_e)
            (advanced_is Electric k.scales.e_force _ _ _ _ _ c.in-Ok.e c.in-Ok.is c.advance_e-e.ensures.fields);
        of_b = of_b;
      });
      plasma = subst (λ xs. IsPlasma xs q) (sym c.advance_e-e.ensures.particles) c.advance_e-e.ensures.plasma;
      tracers = subst (λ xs. All (IsOf xs) q.tracers.items) (sym c.advance_e-e.ensures.particles)
          (subst (λ ts. All (IsOf (all_particles c.in_ok-pushed.pushed.0.tiles.items)) ts.items) (sym c.advance_e-e.ensures.tracers)
          (still_of (push_around k) w.particles _ k.plasma.tracers.items _
          moved.pushed.particles (tracers_pushed g at.In_ok-pushed) c.state.invariant.tracers));
    }

pub returns-clause-steps : goal.returns-clause-steps
returns-clause-steps g c =
    let w = world c.state.inside in
    let at = goal.at.returns-clause-steps g c in
    let first = half g at.In_ok-b in
    let moved = has_pushed g at.In_ok-pushed in
    let free = unstopped g at.In-None (pushed g at.In_ok-pushed first) in
    ap (λ (v : StateView). stepped v.world) (sym c.state.view_is)
    ∙ stepped_after w c.in-Ok.e.values c.in_ok-b.field-0.b.values _
    (after g at.In-Ok first moved free (before_cut g at.In-None-late) (before g at.In-None-late first) (raised g at.After-raise_e))
    ∙ ap (λ (v : World). Ok v) (next g at.In-Ok moved)

pub returns-clause-keeps : goal.returns-clause-keeps
returns-clause-keeps g c =
    let k = c.state.inside in
    let w = world k in
    let b = c.in_ok-b.field-0.b in
    let at = goal.at.returns-clause-keeps g c in
    let first = half g at.In_ok-b in
    let moved = has_pushed g at.In_ok-pushed in
    let free = unstopped g at.In-None (pushed g at.In_ok-pushed first) in
    let after' = after g at.In-Ok first moved free (before_cut g at.In-None-late) (before g at.In-None-late first) (raised g at.After-raise_e) in
    subst (λ (v : StateView). Keeps v.world (seen (k.step + 1) k.loops k.scales c.in-Ok.e b c.advance_e-e.result.1)) c.state.view_is
    (subst (Keeps w) (next g at.In-Ok moved) (keeps_after w c.in-Ok.e.values b.values _ c.state.invariant.sound after'))

pub returns-clause-map : goal.returns-clause-map
returns-clause-map g c =
    ap (λ f. f.map) c.advance_e-e.ensures.frame ∙ (has_pushed g (goal.at.returns-clause-map g c).In_ok-pushed).map
    ∙ ap (λ (v : StateView). v.map) c.state.view_is

pub returns-clause-followed : goal.returns-clause-followed
returns-clause-followed g c =
    let k = c.state.inside in
    ap (λ ts. identities ts.items) c.advance_e-e.ensures.tracers
    ∙ same_identities (push_around k) k.plasma.tracers.items _ (tracers_pushed g (goal.at.returns-clause-followed g c).In_ok-pushed)
    ∙ ap (λ (v : StateView). v.followed) c.state.view_is

pub returns-in_err-b-clause-memory : goal.returns-in_err-b-clause-memory
returns-in_err-b-clause-memory g c wanted = absurd (wants_none _ _ c.from_residual.ensures.1 wanted)

pub returns-in_err-pushed-clause-memory : goal.returns-in_err-pushed-clause-memory
returns-in_err-pushed-clause-memory g c wanted =
    let first = half g (goal.at.returns-in_err-pushed-clause-memory g c).In_ok-b in (
      subst (λ (n : ℕ). 1 < n) c.of-workers.ensures (c.in_err-pushed.ensures.alone (refl {a = true})),
      ap (λ (v : StateView). half_stop Half1 v.world) (sym c.state.view_is) ∙ first.none,
    )

pub returns-in-Some-clause-memory : goal.returns-in-Some-clause-memory
returns-in-Some-clause-memory g c wanted = absurd (stop_wants_none _ _ refl wanted)

pub returns-in-Err-clause-memory : goal.returns-in-Err-clause-memory
returns-in-Err-clause-memory g c wanted = absurd (stop_wants_none _ _ refl wanted)

pub returns-clause-memory : goal.returns-clause-memory
returns-clause-memory g c wanted = absurd (state_wants_none _ _ refl wanted)

-- there is no state after a stop or want of memory
pub returns-in_err-b-clause-keeps : goal.returns-in_err-b-clause-keeps
returns-in_err-b-clause-keeps g c = IfOk-from_err c.from_residual.result _ c.from_residual.ensures.0

pub returns-in_err-b-clause-map : goal.returns-in_err-b-clause-map
returns-in_err-b-clause-map g c = IfOk-from_err c.from_residual.result _ c.from_residual.ensures.0

pub returns-in_err-b-clause-followed : goal.returns-in_err-b-clause-followed
returns-in_err-b-clause-followed g c = IfOk-from_err c.from_residual.result _ c.from_residual.ensures.0

pub returns-in_err-pushed-clause-keeps : goal.returns-in_err-pushed-clause-keeps
returns-in_err-pushed-clause-keeps g c = IfOk-from_err c.from_residual-in_err-pushed.result _ c.from_residual-in_err-pushed.ensures.0

pub returns-in_err-pushed-clause-map : goal.returns-in_err-pushed-clause-map
returns-in_err-pushed-clause-map g c = IfOk-from_err c.from_residual-in_err-pushed.result _ c.from_residual-in_err-pushed.ensures.0

pub returns-in_err-pushed-clause-followed : goal.returns-in_err-pushed-clause-followed
returns-in_err-pushed-clause-followed g c = IfOk-from_err c.from_residual-in_err-pushed.result _ c.from_residual-in_err-pushed.ensures.0
