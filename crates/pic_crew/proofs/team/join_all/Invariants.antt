use Rattle.std.proofs.Common.{length}
use Rattle.pic_crew.proofs.Turns.{IsGathering}
use Rattle.pic_crew.proofs.team.join_all.Given as goal

abbrev pub invariant-loop-other : goal.invariant-loop-other
invariant-loop-other l = IsGathering l.yard (length l.fn.seats.items) l.seats.items l.seat

abbrev pub decreases-loop-other : goal.decreases-loop-other
decreases-loop-other l = length l.seats.items
