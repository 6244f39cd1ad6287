use Rattle.pic_yard.proofs.Turns.{IsUnloading}
use Rattle.pic_yard.proofs.unloading.unload.Given as goal

abbrev pub invariant-loop-t : goal.invariant-loop-t
invariant-loop-t l = IsUnloading l.t l.initial.closed l.closed l.initial.tiles l.tiles
