use Rattle.std.proofs.Common.{◌≡◌, List, All, sym, ◌∙◌, ap, subst}
use Rattle.pic_num.specs.Space.{triple}
use Rattle.pic_block.specs.Block.{BlockValues}
use Rattle.pic_block.specs.Cells.{IsCells}
use Rattle.pic_grid.specs.Lattice.{EachAtMost, value_at}
use Rattle.pic_filter.specs.Smoothing.{smoothed_each, most_to_smooth}
use Rattle.pic_grid.specs.Parts.{ArePartsOf, joined}
use Rattle.pic_advance.specs.Blocks.{EachBlock, IsAmong, IsMade}
use Rattle.pic_advance.proofs.TakenLaws.{HasBlocks, has_blocks, given_back, all_among, made_zones, made_is}
use Rattle.pic_advance.proofs.MadeLaws.{making_shares}
use Rattle.pic_advance.proofs.filtering.smooth_values.Given.{Over}
use Rattle.pic_advance.proofs.filtering.smooth_values.Goals as goal
use Rattle.pic_advance.proofs.filtering.smooth_values.Goals.{After-deref_mut}

-- the blocks of the lattice that is written
have : (g : Over) (c : After-deref_mut g) → HasBlocks c.args.from.now.cells c.args.to c.into_blocks-blocks.result.items
have g c =
    let taken = c.into_blocks-blocks in
    has_blocks c.args.from.now.cells c.args.to taken.result.items c.requires.cells (subst IsCells c.cells-cells.ensures.value c.useful-workers.ensures.cells)
    c.parts-parts.ensures.limits taken.ensures.zones taken.ensures.values

pub each_share-requires-clause-shared : goal.each_share-requires-clause-shared
each_share-requires-clause-shared g c κs within =
    let from = c.args.from.now in
    making_shares ((c.cells-cells.result.n ≡ from.cells) × EachAtMost most_to_smooth from) (IsAmong from.cells) (smoothed_each from.cells (value_at from))

pub each_share-requires-clause-can : goal.each_share-requires-clause-can
each_share-requires-clause-can g c κs within =
    let n = c.args.from.now.cells in
    let taken = c.into_blocks-blocks in
    let has = have g (goal.at.each_share-requires-clause-can g c).After-deref_mut in (
      (c.cells-cells.ensures.value, c.requires.small),
      subst (λ (bs : List BlockValues). All (IsAmong n) bs) (sym c.deref_mut.ensures.value) (all_among n c.args.to taken.result.items has),
    )

pub of_blocks-requires-clause-zones : goal.of_blocks-requires-clause-zones
of_blocks-requires-clause-zones g c =
    let from = c.args.from.now in
    let old = c.into_blocks-blocks.result.items in
    let new = c.each_share.new.items in
    let taken = c.into_blocks-blocks in
    let has = have g (goal.at.of_blocks-requires-clause-zones g c).After-deref_mut in
    let each = subst (λ (bs : List BlockValues). EachBlock (IsMade (smoothed_each from.cells (value_at from))) bs new) c.deref_mut.ensures.value
    c.each_share.ensures in
    let back = given_back taken.result.len new old taken.result.ok.0 each.long in
    subst (λ (bs : List BlockValues). ArePartsOf c.cells-cells.result.n (triple c.parts-parts.result) bs) (sym back)
    (made_zones from.cells c.args.to old has new (smoothed_each from.cells (value_at from)) each
    c.cells-cells.result (triple c.parts-parts.result) c.cells-cells.ensures.value c.parts-parts.ensures.value)

pub returns : goal.returns
returns g c =
    let from = c.args.from.now in
    let old = c.into_blocks-blocks.result.items in
    let new = c.each_share.new.items in
    let taken = c.into_blocks-blocks in
    let has = have g (goal.at.returns g c).After-deref_mut in
    let each = subst (λ (bs : List BlockValues). EachBlock (IsMade (smoothed_each from.cells (value_at from))) bs new) c.deref_mut.ensures.value
    c.each_share.ensures in
    let back = given_back taken.result.len new old taken.result.ok.0 each.long in
    made_is from.cells c.args.to old has new (smoothed_each from.cells (value_at from)) each
    c.cells-cells.result from.side (triple c.parts-parts.result) c.of_blocks.result
    (record { cells = c.cells-cells.ensures.value; side_is = c.cells-cells.ensures.side })
    c.parts-parts.ensures.value
    (c.of_blocks.ensures ∙ ap (λ (bs : List BlockValues). joined c.cells-cells.result (triple c.parts-parts.result) bs) back)
