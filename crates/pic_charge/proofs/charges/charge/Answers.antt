use Rattle.std.proofs.Common.{◌≡◌, ℤ, ◌^◌, take, sym, subst, lit≤, arith}
use Rattle.std.proofs.lemmas.List.{length-take, take_all}
use Rattle.pic_num.specs.Sizes.{IsAtMost}
use Rattle.pic_charge.specs.Charge.{most_node_charge}
use Rattle.pic_charge.proofs.ChargeLaws.{short_side, HoldsCharge, holds_none, holds_more, holds_room, charge_of_most}
use Rattle.pic_charge.proofs.SpreadLaws.{still_at_most}
use Rattle.pic_charge.proofs.charges.charge.Goals as goal

pub loop-particle-init : goal.loop-particle-init
loop-particle-init c = holds_none c.args.cells.side c.args.cells.n c.args.kinds.now c.clear.new.to c.clear.ensures.same_cells c.clear.ensures.values

pub loop-particle-preserved : goal.loop-particle-preserved
loop-particle-preserved c =
    holds_more c.args.cells.side c.args.cells.n c.args.kinds.now c.args.particles.now c.loop-particle.particle-index _ c.loop-particle.to c.add_particle.new.to
    c.loop-particle-test.true c.loop-particle.invariant c.add_particle.ensures

pub add_particle-requires : goal.add_particle-requires
add_particle-requires c =
    let so_far = take c.loop-particle.particle-index c.args.particles.now in
    let few = c.requires.few in
    let short = short_side _ _ c.sub-sub.ensures c.side-side.ensures.most in
    let fewer = length-take c.loop-particle.particle-index c.args.particles.now in
    record {
      same_cells = c.loop-particle.invariant.cells;
      limits = c.requires.limits;
      placed = c.requires.placed c.loop-particle.particle-index _ c.loop-particle-test.true;
      room = still_at_most c.loop-particle.to most_node_charge (2 ^ 87)
          (holds_room c.args.cells.side c.args.cells.n c.args.kinds.now so_far c.loop-particle.to short c.requires.limits
          (omega (arith, few, fewer)) c.loop-particle.invariant)
          (lit≤ tt);
    }

pub returns : goal.returns
returns c =
    let short = short_side _ _ c.sub-sub.ensures c.side-side.ensures.most in
    let all : take c.loop-particle.particle-index c.args.particles.now ≡ c.args.particles.now =
    take_all c.loop-particle.particle-index c.args.particles.now (omega (arith, c.loop-particle-test.false)) in
    let holds : HoldsCharge c.args.cells.side c.args.cells.n c.args.kinds.now c.args.particles.now c.loop-particle.to =
    subst (λ xs. HoldsCharge c.args.cells.side c.args.cells.n c.args.kinds.now xs c.loop-particle.to) all c.loop-particle.invariant in
    record {
      same_cells = holds.cells;
      values = holds.values;
      size = λ p within. subst (λ (v : ℤ). IsAtMost v most_node_charge) (sym (holds.values p within))
          (charge_of_most c.args.cells.side c.args.cells.n c.args.kinds.now c.args.particles.now p short c.requires.limits c.requires.few);
    }
