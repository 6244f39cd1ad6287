use Rattle.pic_grid.specs.Lattice.{node_at}
use Rattle.pic_filter.specs.Smoothing.{smoothed}
use Rattle.pic_filter.proofs.NodeLaws.{AreGiven}
use Rattle.pic_filter.proofs.nodes.smooth_nodes.Given as goal

-- the nodes so far are filtered
abbrev pub invariant-loop-index : goal.invariant-loop-index
invariant-loop-index l = AreGiven l.cells.n (smoothed l.cells.n (node_at l.from)) l.index l.to
