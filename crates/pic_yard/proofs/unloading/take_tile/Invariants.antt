use Rattle.std.proofs.Common.{◌+◌, ◌*◌, suc}
use Rattle.pic_tile.specs.Directions.{directions}
use Rattle.pic_yard.specs.Unloading.{IsOut}
use Rattle.pic_yard.proofs.unloading.take_tile.Given as goal

abbrev pub invariant-loop-d : goal.invariant-loop-d
invariant-loop-d l = IsOut (l.tile * suc directions + l.d) l.initial.closed l.closed
