use Rattle.std.proofs.Common.{arith}
use Rattle.pic_block.specs.Cells.{index_of}
use Rattle.pic_charge.proofs.sum_spread.place_of.Goals as goal

pub returns-clause-value : goal.returns-clause-value
unfolding index_of
returns-clause-value c = omega arith
