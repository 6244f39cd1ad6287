use Rattle.std.proofs.Common.{pos, ◌*◌, replicate, ◌∙◌, ap}
use Rattle.pic_num.specs.Space.{Triple, triple}
use Rattle.pic_block.specs.Cells.{count_of, cell_of}
use Rattle.pic_block.specs.Block.{BlockValues}
use Rattle.pic_grid.specs.Parts.{part_size, corner_of, IsPart}
use Rattle.pic_grid.proofs.PartLaws.{laid_more}
use Rattle.pic_grid.proofs.parts.blocks_of.Goals as goal

pub loop-number-preserved : goal.loop-number-preserved
loop-number-preserved c =
    let number = c.loop-number.number in
    let layers = c.layers_of-layers.ensures.value in
    let size = c.zone_of-zone.ensures.size ∙ layers in
    let block = c.in_ok-block.ensures in
    let part : IsPart (part_size c.args.cells.n (triple c.args.parts)) (cell_of (triple c.args.parts) number) c.in_ok-block.block = record {
      low = ap (λ (b : BlockValues). b.low) block ∙ c.zone_of-zone.ensures.low ∙ ap (λ (s : Triple). corner_of s (cell_of (triple c.args.parts) number)) layers;
      size = ap (λ (b : BlockValues). b.size) block ∙ size;
    } in
    let zeros = ap (λ (b : BlockValues). b.values) block ∙ ap (λ (s : Triple). replicate (3 * count_of s) (pos 0)) size in
    rw c.in_ok-push.ensures.items (laid_more c.args.cells.n (triple c.args.parts) number _ c.in_ok-block.block c.loop-number.invariant part zeros)
