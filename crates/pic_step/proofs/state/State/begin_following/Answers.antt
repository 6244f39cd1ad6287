use Rattle.std.proofs.Common.{◌<◌, ◌≤◌, List, All, length, sym, subst}
use Rattle.pic_num.specs.Limits.{most_particles}
use Rattle.pic_num.specs.declared.motion.Particle.{Particle}
use Rattle.pic_num.specs.Space.{triple}
use Rattle.pic_grid.specs.Hat.{IsInBox}
use Rattle.pic_tile.specs.InOrder.{AreOrdered}
use Rattle.pic_tile.specs.Tiling.{cells_of}
use Rattle.pic_step.specs.Plasma.{IsPlasma}
use Rattle.pic_step.specs.Start.{begun}
use Rattle.pic_step.specs.Tracers.{IsOf}
use Rattle.pic_step.proofs.KeptLaws.{inside, begun_is, kept}
use Rattle.pic_step.proofs.state.State.begin_following.Goals as goal

pub new-requires-clause-inside : goal.new-requires-clause-inside
new-requires-clause-inside c =
    let m = c.args.start.setup.map in
    subst (λ (xs : List Particle). All (λ x. IsInBox m.side (cells_of m) (triple x.x)) xs) (sym c.as_slice.ensures.value)
    (inside (begun c.args.start) c.requires.sound)

pub new-requires-clause-few : goal.new-requires-clause-few
new-requires-clause-few c = subst (λ (xs : List Particle). length xs ≤ most_particles) (sym c.as_slice.ensures.value) c.requires.sound.few

pub new-requires-clause-filter : goal.new-requires-clause-filter
new-requires-clause-filter c = c.requires.sound.filter

pub new-requires-clause-ordered : goal.new-requires-clause-ordered
new-requires-clause-ordered c = subst AreOrdered (sym c.as_slice.ensures.value) c.requires.sound.ordered

pub new-requires-clause-ids : goal.new-requires-clause-ids
new-requires-clause-ids c =
    subst (λ (xs : List Particle). All (λ id. id < length xs) c.args.ids.now) (sym c.as_slice.ensures.value) c.requires.ids

pub returns-clause-followed : goal.returns-clause-followed
returns-clause-followed c = c.in_ok-plasma.ensures.followed

pub returns-clause-world : goal.returns-clause-world
returns-clause-world c =
    let s = c.args.start in
    let p = c.in_ok-plasma.plasma in
    begun_is s.step s.setup.filter s.setup.loops s.setup.map s.setup.scales s.setup.kinds s.e s.b s.particles.items p c.tiles-map.ensures.limits
    c.requires.sound c.requires.cut
    c.in_ok-plasma.ensures.map c.in_ok-plasma.ensures.filter c.in_ok-plasma.ensures.kinds
    (subst (λ (xs : List Particle). IsPlasma xs p) c.as_slice.ensures.value c.in_ok-plasma.ensures.plasma)
    (subst (λ (xs : List Particle). All (IsOf xs) p.tracers.items) c.as_slice.ensures.value c.in_ok-plasma.ensures.tracers)

pub returns-clause-map : goal.returns-clause-map
returns-clause-map c = c.in_ok-plasma.ensures.map

pub invariant_of-result : goal.invariant_of-result
invariant_of-result c =
    let s = c.args.start in
    let p = c.in_ok-plasma.plasma in
    kept s.step s.setup.filter s.setup.loops s.setup.map s.setup.scales s.setup.kinds s.e s.b s.particles.items p c.tiles-map.ensures.limits
    c.requires.sound c.requires.cut
    c.in_ok-plasma.ensures.map c.in_ok-plasma.ensures.filter c.in_ok-plasma.ensures.kinds
    (subst (λ (xs : List Particle). IsPlasma xs p) c.as_slice.ensures.value c.in_ok-plasma.ensures.plasma)
    (subst (λ (xs : List Particle). All (IsOf xs) p.tracers.items) c.as_slice.ensures.value c.in_ok-plasma.ensures.tracers)
