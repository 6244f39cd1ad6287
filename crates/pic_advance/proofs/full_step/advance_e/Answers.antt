use Rattle.std.proofs.Common.{◌≡◌, List, All, sym, ◌∙◌, ap, subst}
use Rattle.std.specs.Option.{option_copied}
use Rattle.pic_num.specs.Space.{triple}
use Rattle.pic_block.specs.Block.{BlockValues}
use Rattle.pic_block.specs.Cells.{IsCells}
use Rattle.pic_grid.specs.Parts.{ArePartsOf, joined}
use Rattle.pic_advance.specs.Blocks.{EachBlock}
use Rattle.pic_advance.specs.Driven.{CanBeDriven, IsDriven, current_in, driven_stop, full_all}
use Rattle.pic_advance.proofs.DrivenLaws.{all_can_drive, full_made, full_stop_is, steps_share}
use Rattle.pic_advance.proofs.TakenLaws.{HasBlocks, has_blocks, given_back, made_zones, made_is}
use Rattle.pic_advance.proofs.full_step.advance_e.Given.{Over}
use Rattle.pic_advance.proofs.full_step.advance_e.Goals as goal
use Rattle.pic_advance.proofs.full_step.advance_e.Goals.{After-deref_mut}

-- the blocks of E
have : (g : Over) (c : After-deref_mut g) → HasBlocks c.args.b.now.cells c.args.e c.into_blocks-blocks.result.items
have g c =
    let taken = c.into_blocks-blocks in
    has_blocks c.args.b.now.cells c.args.e taken.result.items c.requires.cells (subst IsCells c.cells-cells.ensures.value c.useful-workers.ensures.cells)
    c.parts-parts.ensures.limits taken.ensures.zones taken.ensures.values

pub each_share-requires-clause-shared : goal.each_share-requires-clause-shared
each_share-requires-clause-shared g c κs within = steps_share c.args.scales.now c.args.b.now (option_copied c.args.current)

pub each_share-requires-clause-can : goal.each_share-requires-clause-can
each_share-requires-clause-can g c κs within =
    let n = c.args.b.now.cells in
    let taken = c.into_blocks-blocks in
    let has = have g (goal.at.each_share-requires-clause-can g c).After-deref_mut in (
      record { b_small = c.requires.b_small; current = c.requires.current },
      subst (λ (bs : List BlockValues). All (CanBeDriven n) bs) (sym c.deref_mut.ensures.value)
          (all_can_drive n c.args.e taken.result.items has c.requires.e_small c.requires.cells),
    )

pub of_blocks-requires-clause-zones : goal.of_blocks-requires-clause-zones
of_blocks-requires-clause-zones g c =
    let scales = c.args.scales.now in
    let b = c.args.b.now in
    let j = current_in (option_copied c.args.current) in
    let old = c.into_blocks-blocks.result.items in
    let new = c.each_share.new.items in
    let taken = c.into_blocks-blocks in
    let has = have g (goal.at.of_blocks-requires-clause-zones g c).After-deref_mut in
    let each = subst (λ (bs : List BlockValues). EachBlock (IsDriven scales b j) bs new) c.deref_mut.ensures.value c.each_share.ensures.0 in
    let back = given_back taken.result.len new old taken.result.ok.0 each.long in
    subst (λ (bs : List BlockValues). ArePartsOf c.cells-cells.result.n (triple c.parts-parts.result) bs) (sym back)
    (made_zones b.cells c.args.e old has new (full_all scales b j c.args.e) (full_made b.cells c.args.e old has scales b j new each)
    c.cells-cells.result (triple c.parts-parts.result) c.cells-cells.ensures.value c.parts-parts.ensures.value)

pub returns-in-None : goal.returns-in-None
returns-in-None g c =
    let scales = c.args.scales.now in
    let b = c.args.b.now in
    let j = current_in (option_copied c.args.current) in
    let old = c.into_blocks-blocks.result.items in
    let new = c.each_share.new.items in
    let taken = c.into_blocks-blocks in
    let has = have g (goal.at.returns-in-None g c).After-deref_mut in
    let each = subst (λ (bs : List BlockValues). EachBlock (IsDriven scales b j) bs new) c.deref_mut.ensures.value c.each_share.ensures.0 in
    let back = given_back taken.result.len new old taken.result.ok.0 each.long in
    let stop = subst (λ (bs : List BlockValues). c.each_share.result ≡ driven_stop scales b j bs) c.deref_mut.ensures.value c.each_share.ensures.1 in (
      made_is b.cells c.args.e old has new (full_all scales b j c.args.e) (full_made b.cells c.args.e old has scales b j new each)
          c.cells-cells.result b.side (triple c.parts-parts.result) c.of_blocks.result
          (record { cells = c.cells-cells.ensures.value; side_is = c.cells-cells.ensures.side })
          c.parts-parts.ensures.value
          (c.of_blocks.ensures ∙ ap (λ (bs : List BlockValues). joined c.cells-cells.result (triple c.parts-parts.result) bs) back),
      sym (full_stop_is b.cells c.args.e old has scales b j c.each_share.result stop) ∙ c.in-None.is,
    )

pub returns-in-Some : goal.returns-in-Some
returns-in-Some g c =
    let scales = c.args.scales.now in
    let b = c.args.b.now in
    let j = current_in (option_copied c.args.current) in
    let old = c.into_blocks-blocks.result.items in
    let has = have g (goal.at.returns-in-Some g c).After-deref_mut in
    let stop = subst (λ (bs : List BlockValues). c.each_share.result ≡ driven_stop scales b j bs) c.deref_mut.ensures.value c.each_share.ensures.1 in
    sym (full_stop_is b.cells c.args.e old has scales b j c.each_share.result stop) ∙ c.in-Some.is
