use Rattle.std.proofs.Common.{arith, lit≤}
use Rattle.pic_laws.proofs.SlowSums.{none_added, one_more}
use Rattle.pic_laws.proofs.slow.layer.Goals as goal

pub loop-y-init : goal.loop-y-init
loop-y-init c = none_added _ _

pub loop-y-preserved : goal.loop-y-preserved
loop-y-preserved c =
    one_more _ _ _ _ _ c.loop-y.invariant c.row-part.ensures.value c.row-part.ensures.size
    (omega (arith, c.loop-y-test.true, c.loop-y.auto.y-end, c.requires.y_most)) (lit≤ tt)
