use Rattle.pic_tiles_tests.specs.Particles.{AreFirst}
use Rattle.pic_tiles_tests.proofs.opening.particles.Given as goal

abbrev pub invariant-loop-id : goal.invariant-loop-id
invariant-loop-id l = AreFirst l.id l.all.items
