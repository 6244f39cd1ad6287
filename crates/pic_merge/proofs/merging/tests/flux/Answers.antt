use Rattle.std.proofs.Common.{◌^◌, sym, subst}
use Rattle.pic_block.specs.Block.{AllAtMost}
use Rattle.pic_grid.proofs.SmallLaws.{all_zeros}
use Rattle.pic_merge.proofs.merging.tests.flux.Goals as goal

pub put-requires : goal.put-requires
put-requires c = subst (AllAtMost (2 ^ 120)) (sym c.in_ok-block.ensures) (all_zeros (2 ^ 120) _ _)
