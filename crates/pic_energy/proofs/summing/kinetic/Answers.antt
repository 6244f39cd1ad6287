use Rattle.std.proofs.Common.{◌+◌, [], refl, sym, ◌∙◌, arith}
use Rattle.std.proofs.lemmas.List.Sums.{sum_by_more}
use Rattle.pic_num.specs.declared.motion.Particle.{Particle}
use Rattle.pic_energy.specs.Energies.{kinetic_of, kinetic_sum}
use Rattle.pic_energy.proofs.summing.kinetic.Goals as goal

-- what stands for a particle past the end
abbrev no_particle : Particle
no_particle = record { id = 0; species = 0; x = []; v = [] }

pub loop-particle-init : goal.loop-particle-init
unfolding kinetic_sum
loop-particle-init c = record { value = refl; most = omega arith }

pub loop-particle-preserved : goal.loop-particle-preserved
unfolding kinetic_sum
loop-particle-preserved c =
    let before = c.loop-particle.invariant in
    let part = c.kinetic_part-part.ensures in
    let more = sum_by_more (kinetic_of c.args.kinds.now) c.args.particles.now c.loop-particle.particle-index no_particle c.loop-particle-test.true in
    record { value = (λ j. before.value j + part.value j) ∙ sym more; most = omega arith }
