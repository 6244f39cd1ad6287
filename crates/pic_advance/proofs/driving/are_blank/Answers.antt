use Rattle.std.proofs.Common.{pos, subst, ◌≡◌, ◌∙◌}
use Rattle.std.proofs.lemmas.List.{get_or_default}
use borrow.Author.Count.{below_more}
use Rattle.pic_block.specs.Block.{BlockValues}
use Rattle.pic_block.specs.Block.{no_block}
use Rattle.pic_advance.specs.Blocks.{block_in, IsMade}
use Rattle.pic_advance.specs.Driven.{cleared}
use Rattle.pic_advance.proofs.MadeLaws.{made_clear}
use Rattle.pic_advance.proofs.driving.are_blank.Goals as goal

pub loop-i-preserved : goal.loop-i-preserved
loop-i-preserved c =
    let bs = c.args.blocks.now in
    let i = c.loop-i.i in
    let r = c.index-blocks-i.result in
    let at : r ≡ block_in bs i = c.index-blocks-i.is ∙ get_or_default bs i r no_block c.loop-i-test.true in
    let zeros = c.is_blank.ensures c.if-not-is_blank.false in
    let is : r ≡ cleared r = λ j. record { low = r.low; size = r.size; values = zeros j } in
    below_more (λ k. IsMade (λ a p. pos 0) (block_in bs k) (block_in bs k)) i c.loop-i.invariant
    (subst (λ (b : BlockValues). IsMade (λ a p. pos 0) b b) at (made_clear r r is))
