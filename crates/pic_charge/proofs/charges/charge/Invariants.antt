use Rattle.pic_charge.proofs.ChargeLaws.{HoldsCharge}
use Rattle.std.proofs.Common.{take}
use Rattle.pic_charge.proofs.charges.charge.Given as goal

abbrev pub invariant-loop-particle : goal.invariant-loop-particle
invariant-loop-particle l = HoldsCharge l.cells.side l.cells.n l.kinds (take l.particle-index l.particles) l.to
