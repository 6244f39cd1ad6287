use Rattle.std.proofs.Common.{length}
use Rattle.pic_crew.proofs.team.+turns.Given as goal

abbrev pub decreases-work_in_turn : goal.decreases-work_in_turn
decreases-work_in_turn g l = length l.seats.now
