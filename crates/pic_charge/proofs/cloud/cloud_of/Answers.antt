use Rattle.std.proofs.Common.{◌≡◌, pos, ◌*ℤ◌, ◌≤◌, ◌^◌, unsigned_abs, sym, ◌∙◌, ap, subst, arith}
use Rattle.std.proofs.lemmas.List.{get_or_read}
use Rattle.pic_num.specs.declared.motion.Kind.{Kind}
use Rattle.pic_num.specs.Space.{Triple, triple}
use Rattle.pic_grid.specs.PushPhase.{kind_of, no_kind}
use Rattle.pic_grid.proofs.SpeciesLaws.{charge_most}
use Rattle.pic_charge.proofs.PairLaws.{pair_as, share_is_spread, twelve_is}
use Rattle.pic_charge.proofs.SpreadLaws.{kept_is}
use Rattle.pic_charge.proofs.cloud.cloud_of.Goals as goal

pub returns-clause-amount : goal.returns-clause-amount
returns-clause-amount c =
    let kinds = c.args.kinds.now in
    let x = c.args.particle.now in
    let kind = c.index-kinds-particle.result in
    let kind_is : kind ≡ kind_of kinds x = get_or_read kinds x.species kind c.requires.placed.species c.index-kinds-particle.is no_kind in
    let small : unsigned_abs kind.charge ≤ 2 ^ 15 = subst (λ (k : Kind). unsigned_abs k.charge ≤ 2 ^ 15) (sym kind_is)
    (charge_most kinds x c.requires.limits) in
    let size = c.twelvefold.ensures.size.size in
    kept_is c.twelvefold.result (record { size = omega (arith, size) })
    ∙ twelve_is kind.charge c.twelvefold.result small c.twelvefold.ensures.value ∙ ap (λ (k : Kind). pos 12 *ℤ k.charge) kind_is

pub returns-clause-shares : goal.returns-clause-shares
returns-clause-shares c =
    let n = c.args.cells.n in
    let side = c.args.cells.side in
    let x = c.args.particle.now in
    let at : Triple = triple x.x in
    let is = c.sub-sub.ensures in
    let whole = c.numbers.ensures.value in
    let on_x = pair_as _ side _ n.x at.x c.of_nodes.result is (ap (λ (m : Triple). m.x) whole) c.of_nodes.ensures in
    let on_y = pair_as _ side _ n.y at.y c.of_nodes-2.result is (ap (λ (m : Triple). m.y) whole) c.of_nodes-2.ensures in
    let on_z = pair_as _ side _ n.z at.z c.of_nodes-3.result is (ap (λ (m : Triple). m.z) whole) c.of_nodes-3.ensures in
    share_is_spread side n c.args.kinds.now x c.of_nodes.result c.of_nodes-2.result c.of_nodes-3.result _ (returns-clause-amount c) on_x on_y on_z
