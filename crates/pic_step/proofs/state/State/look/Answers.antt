use Rattle.std.proofs.Common.{◌≡◌, ◌<◌, ℕ, List, All, length, sym, ap, ◌∙◌, subst}
use Rattle.std.specs.Vec.{with_items}
use Rattle.std.proofs.lemmas.List.{with_items_is}
use Rattle.std.proofs.lemmas.List.Elements.{All-weaker}
use Rattle.pic_num.specs.declared.motion.Particle.{Particle}
use Rattle.pic_num.specs.Space.{Triple}
use Rattle.pic_devices.specs.declared.place.Place.{Place}
use Rattle.pic_devices.specs.Probes.{IsPlace}
use Rattle.pic_tile.specs.CoreState.{all_particles}
use Rattle.pic_tile.specs.InOrder.{AreOrdered, written}
use Rattle.pic_tile.proofs.InOrderLaws.{length-written}
use Rattle.pic_step.specs.SerialStep.{e_of, b_of}
use Rattle.pic_step.specs.Shown.{HaveSameAt}
use Rattle.pic_step.specs.StateView.{StateView}
use Rattle.pic_step.specs.Tracers.{IsOf}
use Rattle.pic_step.proofs.LookLaws.{IsSame, same_whole, shown_tracers, written_ordered}
use Rattle.pic_step.proofs.state.State.look.Goals as goal
use Rattle.pic_step.proofs.state.State.look.Goals.{After-deref_mut, After-write_each}

pub copy_places-requires-clause-places : goal.copy_places-requires-clause-places
copy_places-requires-clause-places c =
    let k = c.self.inside in
    let cells : k.e.cells ≡ c.args.self.now.world.cells = c.self.invariant.cut.of_e.cells ∙ ap (λ (v : StateView). v.world.cells) c.self.view_is in
    subst (λ (ps : List Place). All (IsPlace k.e.cells) ps) (sym c.as_slice-places.ensures)
    (subst (λ (n : Triple). All (IsPlace n) c.args.probes.now.places) (sym cells) c.requires.probes.places)

pub copy_places-requires-clause-cells : goal.copy_places-requires-clause-cells
copy_places-requires-clause-cells c =
    c.requires.e_cells ∙ sym (c.self.invariant.cut.of_e.cells ∙ ap (λ (v : StateView). v.world.cells) c.self.view_is)

pub copy_places-requires-2-clause-places : goal.copy_places-requires-2-clause-places
copy_places-requires-2-clause-places c =
    let k = c.self.inside in
    let cells : k.b.cells ≡ c.args.self.now.world.cells = c.self.invariant.cut.of_b.cells ∙ ap (λ (v : StateView). v.world.cells) c.self.view_is in
    subst (λ (ps : List Place). All (IsPlace k.b.cells) ps) (sym c.as_slice-places.ensures)
    (subst (λ (n : Triple). All (IsPlace n) c.args.probes.now.places) (sym cells) c.requires.probes.places)

pub copy_places-requires-2-clause-cells : goal.copy_places-requires-2-clause-cells
copy_places-requires-2-clause-cells c =
    c.requires.b_cells ∙ sym (c.self.invariant.cut.of_b.cells ∙ ap (λ (v : StateView). v.world.cells) c.self.view_is)

-- the list has as many particles
as_many : (c : After-deref_mut) → length c.deref_mut.result.now ≡ length (all_particles c.self.inside.plasma.tiles.items)
as_many c = ap length c.deref_mut.ensures.value ∙ c.requires.count ∙ ap (λ (v : StateView). length v.world.particles) (sym c.self.view_is)

pub write_each-requires : goal.write_each-requires
write_each-requires c =
    let k = c.self.inside in
    let ps = all_particles k.plasma.tiles.items in
    let n = length c.deref_mut.result.now in
    let long = as_many (goal.at.write_each-requires c).After-deref_mut in
    subst (λ (xs : List Particle). All (λ p. p.id < n) xs) (sym c.deref.ensures.value)
    (All-weaker (IsOf ps) (λ p. p.id < n) (λ p one. subst (λ (m : ℕ). p.id < m) (sym long) one.below) k.plasma.tracers.items c.self.invariant.tracers)

-- those that are followed are written over the particles that were there
written_is : (c : After-write_each) → (with_items c.args.to.now.particles c.write_each.new.to).items ≡ written c.self.inside.plasma.tracers.items
    c.deref_mut.result.now
written_is c =
    let old = c.deref_mut.result.now in
    with_items_is c.args.to.now.particles c.write_each.new.to
    (ap length c.write_each.ensures ∙ length-written c.deref.result.now old ∙ c.deref_mut.ensures.len) ∙ c.write_each.ensures
    ∙ ap (λ (xs : List Particle). written xs old) c.deref.ensures.value

pub returns-clause-shows : goal.returns-clause-shows
returns-clause-shows c =
    let k = c.self.inside in
    let at = goal.at.returns-clause-shows c in
    let m = k.plasma.frame.map in
    let qs = c.args.probes.now.places in
    let ps = all_particles k.plasma.tiles.items in
    let view = c.self.view_is in
    let to_e = c.copy_places.new.to in
    let to_b = c.copy_places-2.new.to in
    let to = (with_items c.args.to.now.particles c.write_each.new.to).items in
    let of_e = subst (λ (xs : List Place). All (HaveSameAt to_e k.e) xs) c.as_slice-places.ensures c.copy_places.ensures.same in
    let of_b = subst (λ (xs : List Place). All (HaveSameAt to_b k.b) xs) c.as_slice-places.ensures c.copy_places-2.ensures.same in
    record {
      e = subst (λ (v : StateView). All (HaveSameAt to_e (e_of v.world)) qs) view (same_whole m to_e k.e qs c.self.invariant.cut.of_e of_e);
      b = subst (λ (v : StateView). All (HaveSameAt to_b (b_of v.world)) qs) view (same_whole m to_b k.b qs c.self.invariant.cut.of_b of_b);
      tracers = subst (λ (v : StateView). All (IsSame to v.world.particles) c.args.probes.now.ids) view
          (shown_tracers ps k.plasma.tracers.items c.deref_mut.result.now to c.args.probes.now.ids (as_many at.After-deref_mut) c.self.invariant.tracers
          (ap (λ (v : StateView). v.followed) view ∙ c.requires.followed) (written_is at.After-write_each));
    }

pub returns-clause-count : goal.returns-clause-count
returns-clause-count c =
    let at = goal.at.returns-clause-count c in
    ap length (written_is at.After-write_each) ∙ length-written c.self.inside.plasma.tracers.items c.deref_mut.result.now ∙ as_many at.After-deref_mut
    ∙ ap (λ (v : StateView). length v.world.particles) c.self.view_is

pub returns-clause-ordered : goal.returns-clause-ordered
returns-clause-ordered c =
    let k = c.self.inside in
    let at = goal.at.returns-clause-ordered c in
    subst AreOrdered (sym (written_is at.After-write_each))
    (written_ordered (all_particles k.plasma.tiles.items) k.plasma.tracers.items c.deref_mut.result.now (as_many at.After-deref_mut) c.self.invariant.tracers
    (subst AreOrdered (sym c.deref_mut.ensures.value) c.requires.ordered))
