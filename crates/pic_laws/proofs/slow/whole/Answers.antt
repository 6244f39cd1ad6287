use Rattle.std.proofs.Common.{arith, lit≤}
use Rattle.pic_laws.proofs.SlowSums.{none_added, one_more}
use Rattle.pic_laws.proofs.slow.whole.Goals as goal

pub loop-z-init : goal.loop-z-init
loop-z-init c = none_added _ _

pub loop-z-preserved : goal.loop-z-preserved
loop-z-preserved c =
    one_more _ _ _ _ _ c.loop-z.invariant c.layer-part.ensures.value c.layer-part.ensures.size
    (omega (arith, c.loop-z-test.true, c.loop-z.auto.z-end, c.requires.z_most)) (lit≤ tt)
