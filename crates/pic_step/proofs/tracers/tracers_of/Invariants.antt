use Rattle.std.proofs.Common.{take}
use Rattle.pic_step.proofs.TracerLaws.{AreFollowed}
use Rattle.pic_step.proofs.tracers.tracers_of.Given as goal

abbrev pub invariant-loop-id : goal.invariant-loop-id
invariant-loop-id l = AreFollowed l.particles l.tracers.items (take l.id-index l.ids)
