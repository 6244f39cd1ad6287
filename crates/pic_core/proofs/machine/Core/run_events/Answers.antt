use Rattle.std.proofs.Common.{refl}
use Rattle.pic_core.proofs.RunLaws.{ran_none, ran_more}
use Rattle.pic_core.proofs.machine.Core.run_events.Goals as goal

pub loop-i-init : goal.loop-i-init
loop-i-init c = ran_none c.args.self.now

pub loop-i-preserved : goal.loop-i-preserved
loop-i-preserved c =
    ran_more c.args.self.now c.args.events.now c.loop-i.i c.index-events-i.result c.loop-i.self c.apply.new.self c.loop-i-test.true c.index-events-i.is
    c.loop-i.invariant (c.in-Ok.ensures.when.0 refl) c.in-Ok.ensures.then c.apply.ensures.stands
