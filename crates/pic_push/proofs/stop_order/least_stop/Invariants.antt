use Rattle.std.proofs.Common.{◌≡◌}
use Rattle.pic_push.proofs.LeastLaws.{least_of_last}
use Rattle.pic_push.proofs.stop_order.least_stop.Given as goal

abbrev pub invariant-loop-done : goal.invariant-loop-done
invariant-loop-done l = l.least ≡ least_of_last l.tiles l.done
