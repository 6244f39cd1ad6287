use Rattle.std.proofs.Common.{◌≡◌, false, sym, ap, subst, ◌∙◌}
use Rattle.pic_num.specs.declared.mult.Scales.{Scales}
use Rattle.pic_grid.specs.Lattice.{value_at}
use Rattle.pic_displace.specs.Displace.{has_displaced, e_allowed, Refuses}
use Rattle.pic_displace.proofs.NoneLaws.{becomes_itself, allowed}
use Rattle.pic_displace.proofs.AnswerLaws.{answers, values_small}
use Rattle.pic_displace.proofs.displacing.displace.Goals as goal

pub returns-then-not-has_displaced-clause-displaces : goal.returns-then-not-has_displaced-clause-displaces
returns-then-not-has_displaced-clause-displaces c =
    let d = c.args.deck.now in
    let ps = c.args.particles.now in
    let none : has_displaced d.species ≡ false = sym (c.if-not-has_displaced.ensures ∙ ap has_displaced c.species.ensures.value) in
    (becomes_itself d ps c.args.e.now none c.requires.e, allowed d ps c.species.ensures.limits none)

pub check_force-requires-clause-small : goal.check_force-requires-clause-small
check_force-requires-clause-small c =
    values_small c.args.deck.now c.args.particles.now c.args.e.now c.displace_in.new.e c.displace_in.ensures.displaced c.displace_in.ensures.small

pub returns-clause-displaces : goal.returns-clause-displaces
returns-clause-displaces c =
    let e = c.displace_in.new.e in
    answers c.args.deck.now c.args.particles.now c.args.e.now e c.check_force.result c.displace_in.ensures.displaced
    (subst (λ (s : Scales). Refuses (e_allowed e.cells s.e_force (value_at e)) c.check_force.result) c.scales.ensures.value c.check_force.ensures)
