use Rattle.pic_num.specs.Space.{triple}
use Rattle.pic_grid.proofs.PartLaws.{IsLaid}
use Rattle.pic_grid.proofs.parts.blocks_of.Given as goal

-- the blocks of the parts so far stand
abbrev pub invariant-loop-number : goal.invariant-loop-number
invariant-loop-number l = IsLaid l.fn.cells.n (triple l.fn.parts) l.number l.blocks.items
