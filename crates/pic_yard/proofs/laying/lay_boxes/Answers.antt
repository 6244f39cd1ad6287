use Rattle.std.proofs.Common.{◌+◌, List, subst, sym}
use Rattle.pic_yard.specs.Contents.{Slot}
use Rattle.pic_yard.specs.Laying.{HasBoxes}
use Rattle.pic_yard.proofs.LayLaws.{boxes_none, boxes_more}
use Rattle.pic_yard.proofs.laying.lay_boxes.Goals as goal

pub loop-init : goal.loop-init
loop-init c = boxes_none c.args.slots.now.items

pub loop-preserved : goal.loop-preserved
loop-preserved c =
    subst (λ (ys : List Slot). HasBoxes (c.loop.counter + 1) c.args.slots.now.items ys) (sym c.in_ok-push.ensures.items)
    (boxes_more c.loop.counter c.args.slots.now.items c.loop.slots.items c.loop.invariant)
