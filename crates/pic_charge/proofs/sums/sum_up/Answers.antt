use Rattle.std.proofs.Common.{length, refl, ◌∙◌}
use Rattle.pic_charge.specs.Sums.{nodes_in}
use Rattle.pic_charge.proofs.ChargeLaws.{holds_more}
use Rattle.pic_charge.proofs.SumLaws.{sums_none, sums_room}
use Rattle.pic_charge.proofs.sums.sum_up.Goals as goal

pub loop-particle-init : goal.loop-particle-init
loop-particle-init c =
    let n = c.args.cells.n in
    record {
      long = refl;
      holds = sums_none c.args.cells.side n c.args.kinds.now (length c.args.sums.now) c.fill.new.self (c.fill.ensures.after (λ y e. e)) c.requires.long;
    }

pub add_particle-requires-clause-room : goal.add_particle-requires-clause-room
add_particle-requires-clause-room c =
    sums_room c.args.cells.side c.args.cells.n c.args.kinds.now c.args.particles.now c.loop-particle.particle-index c.loop-particle.sums c.requires.small
    c.loop-particle.invariant.holds

pub loop-particle-preserved : goal.loop-particle-preserved
loop-particle-preserved c =
    let n = c.args.cells.n in
    record {
      long = c.add_particle.ensures.long ∙ c.loop-particle.invariant.long;
      holds = holds_more c.args.cells.side n c.args.kinds.now c.args.particles.now c.loop-particle.particle-index _ (nodes_in n c.loop-particle.sums)
          (nodes_in n c.add_particle.new.sums) c.loop-particle-test.true c.loop-particle.invariant.holds c.add_particle.ensures.sums;
    }

pub returns-clause-small : goal.returns-clause-small
returns-clause-small c =
    sums_room c.args.cells.side c.args.cells.n c.args.kinds.now c.args.particles.now c.loop-particle.particle-index c.loop-particle.sums c.requires.small
    c.loop-particle.invariant.holds
