use Rattle.pic_grid.proofs.CopyLaws.{BlocksCopied}
use Rattle.pic_grid.proofs.copying.copy_blocks.Given as goal

-- the blocks so far are copied
abbrev pub invariant-loop-i : goal.invariant-loop-i
invariant-loop-i l = BlocksCopied l.from l.initial.blocks l.i l.blocks
