use Rattle.pic_yard.specs.Laying.{HasBoxes}
use Rattle.pic_yard.proofs.laying.lay_boxes.Given as goal

abbrev pub invariant-loop : goal.invariant-loop
invariant-loop l = HasBoxes l.counter l.initial.slots.items l.slots.items
