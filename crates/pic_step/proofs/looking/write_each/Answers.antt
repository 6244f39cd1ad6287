use Rattle.pic_step.proofs.LookLaws.{each_more}
use Rattle.pic_step.proofs.WriteLaws.{written_none}
use Rattle.pic_step.proofs.looking.write_each.Goals as goal

pub loop-particle-init : goal.loop-particle-init
loop-particle-init c = written_none c.args.to.now

pub loop-particle-preserved : goal.loop-particle-preserved
loop-particle-preserved c =
    each_more c.args.particles.now c.args.to.now c.loop-particle.to c.loop-particle.particle-index _ c.loop-particle-test.true c.loop-particle.invariant
