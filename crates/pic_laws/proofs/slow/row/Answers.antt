use Rattle.std.proofs.Common.{arith, lit≤}
use Rattle.pic_laws.proofs.SlowSums.{none_added, one_more}
use Rattle.pic_laws.proofs.slow.row.Goals as goal

pub loop-x-init : goal.loop-x-init
loop-x-init c = none_added _ _

pub loop-x-preserved : goal.loop-x-preserved
loop-x-preserved c =
    one_more _ _ _ _ _ c.loop-x.invariant c.place-part.ensures.value c.place-part.ensures.size
    (omega (arith, c.loop-x-test.true, c.loop-x.auto.x-end, c.requires.x_most)) (lit≤ tt)
