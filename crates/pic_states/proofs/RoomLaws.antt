-- Room for a state is room for the next, and what is put of a snapshot that holds a state.
use Rattle.std.proofs.Common.{◌≡◌, ℕ, ◌<◌, All, List, length, Option, Some, None, Ok, refl, sym, ap, ◌∙◌, subst}
use Rattle.std.proofs.lemmas.List.{length-map}
use Rattle.std.proofs.lemmas.List.Elements.{All-nil}
use Rattle.pic_num.specs.Push.{unless}
use Rattle.pic_num.specs.Space.{Triple}
use Rattle.pic_grid.specs.declared.snapshot.Snapshot.{Snapshot}
use Rattle.pic_grid.specs.Lattice.{Field, value_at}
use Rattle.pic_grid.specs.PushPhase.{moved_all}
use Rattle.pic_energy.specs.declared.amounts.Energies.{Energies}
use Rattle.pic_record.specs.RecordText.{frame_bytes}
use Rattle.pic_devices.specs.declared.probes.Probes.{Probes}
use Rattle.pic_devices.specs.Probes.{AreProbes}
use Rattle.pic_probe.specs.ProbeLine.{probe_line}
use Rattle.pic_probe.proofs.SameLineLaws.{same_line}
use Rattle.pic_step.specs.SerialStep.{World, e_of, b_of, next_world, stop_of_step, stepped}
use Rattle.pic_step.specs.Shown.{Shows}
use Rattle.pic_tile.specs.InOrder.{AreOrdered}
use Rattle.pic_states.specs.declared.output.Output.{Output}
use Rattle.pic_states.specs.declared.output.Output.TheVariants.{Dump, Lines, Probe}
use Rattle.pic_states.specs.Frames.{energies_in}
use Rattle.pic_states.specs.Rooms.{CanLook, CanPut, HasShape, HoldsState, followed_by}

unless_ok : {A S : Type 0} (o : Option S) (a b : A) → unless o a ≡ Ok b → a ≡ b
unless_ok None a b h = cc
unless_ok (Some s) a b h = cc

step_is : (w v : World) → stepped w ≡ Ok v → next_world w ≡ v
unfolding stepped
step_is w v steps = unless_ok (stop_of_step w) (next_world w) v steps

step_cells : (w : World) → (next_world w).cells ≡ w.cells
unfolding next_world
step_cells w = refl

step_side : (w : World) → (next_world w).side ≡ w.side
unfolding next_world
step_side w = refl

step_count : (w : World) → length (next_world w).particles ≡ length w.particles
unfolding next_world moved_all
step_count w = length-map w.particles _

-- room for a state is room for the next
pub room_kept : (to : Snapshot) (w v : World) → stepped w ≡ Ok v → HasShape to w → HasShape to v
room_kept to w v steps room =
    let is = step_is w v steps in
    let cells = sym (step_cells w) in
    let side = sym (step_side w) in
    subst (HasShape to) is (record {
      e_cells = room.e_cells ∙ cells;
      e_side = room.e_side ∙ side;
      e_parts = room.e_parts;
      b_cells = room.b_cells ∙ cells;
      b_side = room.b_side ∙ side;
      b_parts = room.b_parts;
      count = room.count ∙ sym (step_count w);
    })

-- and what was put of a state can be put of the next
pub put_kept : (output : Output) (w v : World) → stepped w ≡ Ok v → CanPut output w → CanPut output v
put_kept Dump w v steps can = tt
put_kept Lines w v steps can = tt
put_kept (Probe probes) w v steps can =
    subst (λ (u : World). AreProbes u.cells (length u.particles) probes) (step_is w v steps)
    (subst (λ (n : Triple). AreProbes n (length (next_world w).particles) probes) (sym (step_cells w))
    (subst (λ (count : ℕ). AreProbes w.cells count probes) (sym (step_count w)) can))

-- a lattice that is filled with the values of another of its cells and parts
pub filled_as : (f g : Field) → f.cells ≡ g.cells → f.side ≡ g.side → f.parts ≡ g.parts → record f { values = g.values } ≡ g
filled_as f g cells side parts = λ i. record g { cells = cells i; side = side i; parts = parts i }

-- a snapshot that is filled with a state
pub holds_filled : (old new : Snapshot) (w : World) → HasShape old w → new.e ≡ record old.e { values = w.e } → new.b ≡ record old.b { values = w.b }
    → new.particles.items ≡ w.particles → HoldsState new w
holds_filled old new w shape e b particles = record {
  e = e ∙ filled_as old.e (e_of w) shape.e_cells shape.e_side shape.e_parts;
  b = b ∙ filled_as old.b (b_of w) shape.b_cells shape.b_side shape.b_parts;
  particles = particles;
}

-- the frame of a state that stands in a snapshot
pub frame_is : (step : ℕ) (to : Snapshot) (w : World) (energies : Energies) → step ≡ w.step → HoldsState to w → energies ≡ energies_in w
    → frame_bytes step to.e to.b to.particles.items energies ≡ frame_bytes w.step (e_of w) (b_of w) w.particles (energies_in w)
frame_is step to w energies number filled measured =
    (λ i. frame_bytes (number i) (filled.e i) (filled.b i) (filled.particles i) (measured i))

-- and what probes see of it
pub sight_is : (probes : Probes) (step : ℕ) (to : Snapshot) (w : World) → step ≡ w.step → length to.particles.items ≡ length w.particles
    → AreOrdered to.particles.items → AreOrdered w.particles → All (λ id. id < length w.particles) probes.ids → Shows probes to w
    → probe_line probes step (value_at to.e) (value_at to.b) to.particles.items
    ≡ probe_line probes w.step (value_at (e_of w)) (value_at (b_of w)) w.particles
sight_is probes step to w number long ordered sound below shows =
    same_line probes step (value_at to.e) (value_at to.b) (value_at (e_of w)) (value_at (b_of w)) to.particles.items w.particles shows.e shows.b
    ordered.identities sound.identities long below shows.tracers
    ∙ ap (λ (n : ℕ). probe_line probes n (value_at (e_of w)) (value_at (b_of w)) w.particles) number

-- before the first step: what an output needs is within the limits,
pub followed_below : (output : Output) (w : World) → CanPut output w → All (λ id. id < length w.particles) (followed_by output)
followed_below Dump w can = All-nil (λ id. id < length w.particles)
followed_below Lines w can = All-nil (λ id. id < length w.particles)
followed_below (Probe probes) w can = can.ids

-- and it can look into room that has the state
pub look_first : (output : Output) (to : Snapshot) (w : World) (followed : List ℕ) → followed ≡ followed_by output → to.particles.items ≡ w.particles
    → AreOrdered w.particles → CanLook output to followed
look_first Dump to w followed is particles ordered = tt
look_first Lines to w followed is particles ordered = tt
look_first (Probe probes) to w followed is particles ordered =
    record { followed = is; ordered = subst AreOrdered (sym particles) ordered }
