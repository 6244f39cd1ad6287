use Rattle.std.proofs.Common.{take}
use Rattle.pic_core.specs.Events.{Ran}
use Rattle.pic_core.proofs.machine.Core.run_events.Given as goal

abbrev pub invariant-loop-i : goal.invariant-loop-i
invariant-loop-i l = Ran l.initial.self (take l.i l.events) l.self
