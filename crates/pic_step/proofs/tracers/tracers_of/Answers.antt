use Rattle.pic_num.specs.NoParticle.{no_particle}
use Rattle.pic_step.proofs.TracerLaws.{followed_more}
use Rattle.pic_step.proofs.tracers.tracers_of.Goals as goal

pub loop-id-preserved : goal.loop-id-preserved
loop-id-preserved c =
    followed_more c.args.particles.now c.loop-id.tracers.items c.push.new.self.items c.args.ids.now c.loop-id.id-index 0 no_particle c.requires.ordered
    c.requires.ids c.loop-id-test.true c.loop-id.invariant c.in_ok-push.ensures.items
