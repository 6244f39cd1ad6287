use Rattle.std.proofs.Common.{◌+◌, List, sym, subst}
use Rattle.pic_num.specs.declared.motion.Particle.{Particle}
use Rattle.pic_tiles_tests.specs.Particles.{AreFirst}
use Rattle.pic_tiles_tests.proofs.FirstLaws.{first_more}
use Rattle.pic_tiles_tests.proofs.opening.particles.Goals as goal

pub loop-id-preserved : goal.loop-id-preserved
loop-id-preserved c =
    let e = c.particle.ensures in
    subst (λ (xs : List Particle). AreFirst (c.loop-id.id + 1) xs) (sym {A = List Particle} c.in_ok-push.ensures.items)
    (first_more c.loop-id.id c.loop-id.all.items c.particle.result c.loop-id.invariant e.id e.can)
