use Rattle.pic_block.proofs.BlockRowLaws.{RowAdded}
use Rattle.pic_block.proofs.layers.add_run.Given as goal

-- the numbers so far are added
abbrev pub invariant-loop-x : goal.invariant-loop-x
invariant-loop-x l = RowAdded l.from l.initial.to l.at l.start l.x l.to
