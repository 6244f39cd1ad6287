use Rattle.std.proofs.Common.{◌≡◌, ◌*◌, ◌^◌, ◌≤◌, take}
use Rattle.pic_energy.specs.Energies.{kinetic_sum}
use Rattle.pic_energy.proofs.summing.kinetic.Given as goal

-- the kinetic energy of the particles so far
abbrev pub invariant-loop-particle : goal.invariant-loop-particle
invariant-loop-particle l =
    record { value : l.total ≡ kinetic_sum l.kinds (take l.particle-index l.particles); most : l.total ≤ l.particle-index * 2 ^ 80 }
