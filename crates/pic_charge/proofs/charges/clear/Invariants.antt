use Rattle.std.proofs.Common.{pos}
use Rattle.pic_num.specs.Space.{triple}
use Rattle.pic_block.proofs.PlaceLaws.{IsPlace}
use Rattle.pic_charge.proofs.NodeLaws.{IsWritten}
use Rattle.pic_charge.proofs.charges.clear.Given as goal

-- the nodes so far are 0, and the walk stands at the next one
abbrev pub invariant-loop : goal.invariant-loop
invariant-loop l = record {
  cleared : IsWritten l.fn.cells.n (λ _. pos 0) l.to l.counter;
  place : IsPlace l.fn.cells.n l.counter l.place.axis (triple l.place.inner);
}
