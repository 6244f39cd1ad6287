use Rattle.std.proofs.Common.{◌≡◌, ◌^◌}
use Rattle.pic_num.specs.Space.{triple, spot}
use Rattle.pic_block.specs.Block.{AllAtMost}
use Rattle.pic_scheme_tests.proofs.values.block_of.Given as goal

abbrev pub invariant-loop-axis : goal.invariant-loop-axis
invariant-loop-axis l = record {
  low : l.block.low ≡ spot l.fn.zone.low;
  size : l.block.size ≡ triple l.fn.zone.size;
  small : AllAtMost (2 ^ 90) l.block;
}
