use Rattle.std.proofs.Common.{◌^◌, sym, subst, arith}
use Rattle.std.proofs.Math.IntN.{ℤ}
use Rattle.pic_num.specs.Sizes.{IsAtMost}
use Rattle.pic_block.proofs.BlockRowLaws.{row_more, row_next}
use Rattle.pic_block.proofs.layers.add_run.Goals as goal

pub add_number-requires-clause-room : goal.add_number-requires-clause-room
add_number-requires-clause-room c =
    let as_it_was = row_next c.args.from.now c.args.to.now c.args.at c.args.start c.loop-x.x c.loop-x.to c.loop-x.invariant in
    subst (λ (v : ℤ). IsAtMost v (2 ^ 120)) (sym as_it_was) (c.requires.room c.loop-x.x c.loop-x-test.true)

pub loop-x-preserved : goal.loop-x-preserved
loop-x-preserved c =
    row_more c.args.from.now c.args.to.now c.args.at c.args.start c.loop-x.x c.loop-x.to c.add_number.new.to _ _ (omega arith) (omega arith)
    c.loop-x.invariant c.add_number.ensures.sum c.add_number.ensures.others
