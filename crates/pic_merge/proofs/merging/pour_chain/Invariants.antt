use Rattle.std.proofs.Common.{◌++◌, length}
use Rattle.pic_tile.specs.Same.{Same}
use Rattle.pic_merge.proofs.merging.pour_chain.Given as goal

-- both chains have together what they had at first
abbrev pub invariant-loop-node : goal.invariant-loop-node
invariant-loop-node l = Same (l.from ++ l.to) (l.initial.from ++ l.initial.to)

abbrev pub decreases-loop-node : goal.decreases-loop-node
decreases-loop-node l = length l.from
