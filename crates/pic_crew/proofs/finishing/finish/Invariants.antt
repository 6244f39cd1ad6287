use Rattle.std.proofs.Common.{◌≡◌}
use Rattle.pic_crew.proofs.Turns.{IsTaking, finished_up_to}
use Rattle.pic_crew.proofs.finishing.finish.Given as goal

abbrev pub invariant-loop-number : goal.invariant-loop-number
invariant-loop-number l = (l.right ≡ l.fn.right) × IsTaking l.yard l.fn.right (finished_up_to l.number) l.fn.seat l.seat l.tile
