use Rattle.std.proofs.Common.{◌≡◌, take, length}
use Rattle.pic_charge.specs.Sums.{nodes_in}
use Rattle.pic_charge.proofs.ChargeLaws.{HoldsCharge}
use Rattle.pic_charge.proofs.sums.sum_up.Given as goal

-- the sums are the charge of the particles so far
abbrev pub invariant-loop-particle : goal.invariant-loop-particle
invariant-loop-particle l = record {
  long : length l.sums ≡ length l.initial.sums;
  holds : HoldsCharge l.fn.cells.side l.fn.cells.n l.kinds (take l.particle-index l.particles) (nodes_in l.fn.cells.n l.sums);
}
