use Rattle.std.proofs.Common.{◌-◌}
use Rattle.pic_yard.specs.Contents.{tiles_in}
use Rattle.pic_yard.specs.Yards.{opening_of, view_of}
use Rattle.pic_crew.proofs.Turns.{IsWorking}
use Rattle.pic_crew.proofs.working.work_through.Given as goal

abbrev pub invariant-loop-claim : goal.invariant-loop-claim
invariant-loop-claim g l = IsWorking l.yard l.fn.seat l.seat

abbrev pub decreases-loop-claim : goal.decreases-loop-claim
decreases-loop-claim g l = tiles_in (opening_of l.yard) - (view_of l.seat).drawn
