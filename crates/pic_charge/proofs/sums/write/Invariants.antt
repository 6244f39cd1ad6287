use Rattle.pic_num.specs.Space.{triple}
use Rattle.pic_block.proofs.PlaceLaws.{IsPlace}
use Rattle.pic_grid.specs.Lattice.{node_at}
use Rattle.pic_charge.specs.Sums.{nodes_in}
use Rattle.pic_charge.proofs.NodeLaws.{IsWritten}
use Rattle.pic_charge.proofs.sums.write.Given as goal

-- the nodes so far are the sums, and the walk stands at the next one
abbrev pub invariant-loop-i : goal.invariant-loop-i
invariant-loop-i l = record {
  written : IsWritten l.fn.cells.n (node_at (nodes_in l.fn.cells.n l.sums)) l.to l.i;
  place : IsPlace l.fn.cells.n l.i l.place.axis (triple l.place.inner);
}
