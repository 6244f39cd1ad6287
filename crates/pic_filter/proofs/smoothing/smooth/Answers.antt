use Rattle.std.proofs.Common.{length, ◌∙◌, ap}
use Rattle.pic_num.specs.Space.{Spot, triple}
use Rattle.pic_block.specs.Block.{outer_of}
use Rattle.pic_grid.specs.Parts.{origin}
use Rattle.pic_filter.proofs.BlockLaws.{block_smoothed, block_small}
use Rattle.pic_filter.proofs.smoothing.smooth.Goals as goal

pub returns-clause-values : goal.returns-clause-values
returns-clause-values c =
    block_smoothed c.args.from.now c.args.to.now (triple c.lowest_of-low.result) (triple c.zone-zone.result.size) c.smooth_rows.new.to c.args.cells.n
    c.requires.same_cells c.requires.among
    (c.lowest_of-low.ensures ∙ ap (λ (l : Spot). outer_of l origin) c.zone-zone.ensures.low) c.zone-zone.ensures.size
    (c.smooth_rows.auto.to ∙ ap length c.values_mut.ensures.value) c.smooth_rows.ensures

pub returns-clause-small : goal.returns-clause-small
returns-clause-small c =
    block_small c.args.from.now c.args.to.now (triple c.lowest_of-low.result) (triple c.zone-zone.result.size) c.smooth_rows.new.to c.args.cells.n
    c.requires.same_cells c.requires.among
    (c.lowest_of-low.ensures ∙ ap (λ (l : Spot). outer_of l origin) c.zone-zone.ensures.low) c.zone-zone.ensures.size
    (c.smooth_rows.auto.to ∙ ap length c.values_mut.ensures.value) c.smooth_rows.ensures c.requires.small
