use Rattle.pic_yard.proofs.Turns.{IsLaying}
use Rattle.pic_yard.proofs.laying.lay.Given as goal

abbrev pub invariant-loop-t : goal.invariant-loop-t
invariant-loop-t l = IsLaying l.initial.tiles l.tiles l.t l.slots.items
