use Rattle.std.proofs.Common.{◌≡◌, ◌<◌, List, length, All, refl, sym, ap, ◌∙◌, subst, arith}
use Rattle.std.proofs.lemmas.List.{with_items_is}
use Rattle.pic_num.specs.declared.motion.Particle.{Particle}
use Rattle.pic_grid.specs.Lattice.{Field}
use Rattle.pic_grid.specs.PushPhase.{CanShare, moved_all}
use Rattle.pic_push.proofs.PushLaws.{length-moved_all}
use Rattle.pic_tile.specs.CoreState.{all_particles}
use Rattle.pic_tile.specs.Frame.{FrameValue, felt_in}
use Rattle.pic_tile.specs.Tiling.{IsMap, cells_of}
use Rattle.pic_step.specs.PushOn.{around_fields, HasForces}
use Rattle.pic_step.proofs.PushPhaseLaws.{with_force_e, with_forces_of, opening_moves, ready_moves, pushed_by_fields, moved_by_fields}
use Rattle.pic_step.proofs.TracerLaws.{hold_too, none_followed}
use Rattle.pic_step.proofs.UnpushedLaws.{none_pushed}
use Rattle.pic_step.proofs.push_phase.push_phase.Given.{Over}
use Rattle.pic_step.proofs.push_phase.push_phase.Goals as goal
use Rattle.pic_step.proofs.push_phase.push_phase.Goals.{After-with_forces-frame}

-- the frame of the force values,
framed : (g : Over) (c : After-with_forces-frame g) → c.with_forces-frame.result ≡ with_force_e c.args.plasma.frame c.args.scales.now c.args.e.now
framed g c = c.with_forces-frame.ensures

-- where those of B are a lattice's
framed_by : (g : Over) (c : After-with_forces-frame g) (b : Field) → HasForces c.args.scales.now b c.args.plasma.frame → c.with_forces-frame.result
    ≡ with_forces_of c.args.plasma.frame.map c.args.plasma.frame.kinds c.args.scales.now c.args.e.now b
framed_by g c b has =
    let made = with_force_e c.args.plasma.frame c.args.scales.now c.args.e.now in
    ◌∙◌ {b = made} (framed g c) (λ i. record made { force_b = has.forces i })

pub with_forces-frame-requires-clause-cut : goal.with_forces-frame-requires-clause-cut
with_forces-frame-requires-clause-cut g c κs within = c.requires.can.cut

pub with_forces-frame-requires-clause-safe : goal.with_forces-frame-requires-clause-safe
with_forces-frame-requires-clause-safe g c κs within = c.requires.can.safe

pub with_forces-frame-requires-clause-parts : goal.with_forces-frame-requires-clause-parts
with_forces-frame-requires-clause-parts g c κs within = c.requires.can.plasma.parts

pub push_tiles-requires-clause-side : goal.push_tiles-requires-clause-side
push_tiles-requires-clause-side g c κs within =
    let is = framed g (goal.at.push_tiles-requires-clause-side g c).After-with_forces-frame in
    subst (λ (f : FrameValue). 0 < f.map.side) (sym is) c.requires.can.side

pub push_tiles-requires-clause-opening : goal.push_tiles-requires-clause-opening
push_tiles-requires-clause-opening g c κs within =
    let p = c.args.plasma in
    let is = framed g (goal.at.push_tiles-requires-clause-opening g c).After-with_forces-frame in
    opening_moves p.frame c.with_forces-frame.result p.tiles.items p.tiles.items (ap (λ (f : FrameValue). f.map) is) (ap (λ (f : FrameValue). f.kinds) is)
    refl c.requires.can.opening

pub push_tiles-requires-clause-ready : goal.push_tiles-requires-clause-ready
push_tiles-requires-clause-ready g c κs within =
    let p = c.args.plasma in
    let is = framed g (goal.at.push_tiles-requires-clause-ready g c).After-with_forces-frame in
    ready_moves p c.with_forces-frame.result _ (all_particles p.tiles.items) (ap (λ (f : FrameValue). f.map) is) (ap (λ (f : FrameValue). f.force_e.parts) is)
    c.requires.can.plasma

pub returns-clause-pushed : goal.returns-clause-pushed
returns-clause-pushed g c = λ b has.
    pushed_by_fields c.args.plasma c.in_ok-pushed.pushed.0 c.args.scales.now c.args.e.now b c.with_forces-frame.result _
    c.in_ok-pushed.pushed.1 c.requires.can.cut (framed_by g (goal.at.returns-clause-pushed g c).After-with_forces-frame b has) c.in_ok-pushed.ensures.pushed

-- the frame's force values push as the fields do
tracers_share : (g : Over) (c : After-with_forces-frame g) → All (CanShare c.with_forces-frame.result.map.side (cells_of c.with_forces-frame.result.map)
    c.with_forces-frame.result.kinds) c.args.plasma.tracers.items
tracers_share g c =
    let p = c.args.plasma in
    subst (λ (f : FrameValue). All (CanShare f.map.side (cells_of f.map) f.kinds) p.tracers.items) (sym (framed g c))
    (hold_too (CanShare p.frame.map.side (cells_of p.frame.map) p.frame.kinds) (all_particles p.tiles.items) p.tracers.items
    c.requires.can.opening.can c.requires.can.tracers)

pub push_tracers-requires : goal.push_tracers-requires
push_tracers-requires g c =
    let f = c.with_forces-frame.result in
    subst (λ (xs : List Particle). All (CanShare f.map.side (cells_of f.map) f.kinds) xs) (sym c.deref_mut.ensures.value)
    (tracers_share g (goal.at.push_tracers-requires g c).After-with_forces-frame)

pub returns-clause-tracers : goal.returns-clause-tracers
returns-clause-tracers g c = λ b has.
    let p = c.args.plasma in
    let f = c.with_forces-frame.result in
    let old = p.tracers.items in
    let new = c.push_tracers.new.tracers in
    let is : new ≡ moved_all (felt_in f) old = c.push_tracers.ensures ∙ ap (moved_all (felt_in f)) c.deref_mut.ensures.value in
    ap (λ ts. ts.items) c.in_ok-pushed.ensures.tracers
    ∙ with_items_is p.tracers new (ap length is ∙ length-moved_all (felt_in f) old ∙ sym p.tracers.ok.0) ∙ is
    ∙ moved_by_fields p c.args.scales.now c.args.e.now b f old c.requires.can.cut
    (framed_by g (goal.at.returns-clause-tracers g c).After-with_forces-frame b has)

pub returns-then-plasma-eq0-clause-tracers : goal.returns-then-plasma-eq0-clause-tracers
returns-then-plasma-eq0-clause-tracers g c = λ b has.
    let p = c.args.plasma in
    let none : p.count ≡ 0 = omega (arith, c.if-plasma-eq0.true) in
    none_followed (around_fields c.args.scales.now p.frame.kinds c.args.e.now b) (all_particles p.tiles.items) p.tracers.items
    (sym c.requires.can.plasma.count ∙ none) c.requires.can.tracers

pub returns-then-plasma-eq0-clause-pushed : goal.returns-then-plasma-eq0-clause-pushed
returns-then-plasma-eq0-clause-pushed g c = λ b has.
    let p = c.args.plasma in
    let none : p.count ≡ 0 = omega (arith, c.if-plasma-eq0.true) in
    none_pushed (around_fields c.args.scales.now p.frame.kinds c.args.e.now b) p
    (subst IsMap c.map-map.ensures.value c.tiles-tiles.ensures.limits)
    c.requires.can.cut.cells c.requires.can.plasma none
