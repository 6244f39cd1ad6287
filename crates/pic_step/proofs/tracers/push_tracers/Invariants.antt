use Rattle.std.proofs.Common.{◌≡◌, ◌++◌, map, take, drop}
use Rattle.pic_tile.specs.Frame.{felt_in}
use Rattle.pic_tile.specs.Leaving.{after_its_push}
use Rattle.pic_step.proofs.tracers.push_tracers.Given as goal

-- those before i are pushed
abbrev pub invariant-loop-i : goal.invariant-loop-i
invariant-loop-i l = l.tracers ≡ map (after_its_push (felt_in l.frame)) (take l.i l.initial.tracers) ++ drop l.i l.initial.tracers
