-- `fill` ends with the room, and what stands in its front was taken.
use Rattle.std.proofs.Common.{◌-◌, length}
use Rattle.pic_fields.proofs.Fronts.{Fronts}
use Rattle.pic_fields.proofs.taking.fill.Given as goal

abbrev pub invariant-loop-count : goal.invariant-loop-count
invariant-loop-count g l = Fronts (g.S.Source.told l.fn.source) (g.S.Source.told l.source) l.room l.count

abbrev pub decreases-loop-count : goal.decreases-loop-count
decreases-loop-count g l = length l.initial.room - l.count
