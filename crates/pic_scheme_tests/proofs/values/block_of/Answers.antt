use Rattle.std.proofs.Common.{◌^◌, sym, ap, subst}
use Rattle.pic_block.specs.Block.{BlockValues, AllAtMost}
use Rattle.pic_grid.proofs.SmallLaws.{all_zeros}
use Rattle.pic_scheme_tests.proofs.values.block_of.Goals as goal

pub loop-axis-init : goal.loop-axis-init
loop-axis-init c = record {
  low = ap (λ (b : BlockValues). b.low) c.in_ok-block.ensures;
  size = ap (λ (b : BlockValues). b.size) c.in_ok-block.ensures;
  small = subst (AllAtMost (2 ^ 90)) (sym c.in_ok-block.ensures) (all_zeros (2 ^ 90) _ _);
}
