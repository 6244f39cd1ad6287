use Rattle.std.proofs.Common.{◌<◌, length, IsSome, sym, ◌∙◌, subst, arith}
use Rattle.std.proofs.lemmas.List.{get_or_default}
use Rattle.pic_block.specs.Block.{no_block}
use Rattle.pic_tile.specs.Directions.{here}
use Rattle.pic_tile.specs.Tile.{TileValue, parcel_at, no_tile}
use Rattle.pic_step.proofs.SwapLaws.{swapping_none, swapping_more}
use Rattle.pic_step.proofs.tile_flux.swap_each_flux.Goals as goal

pub loop-i-init : goal.loop-i-init
loop-i-init c = swapping_none c.args.tiles.now c.args.blocks.now

pub swap_flux-requires : goal.swap_flux-requires
swap_flux-requires c =
    let ts = c.loop-i.tiles in
    let i = c.loop-i.i in
    let s = c.loop-i.invariant in
    let test = c.loop-i-test.true in
    let below : i < length ts = omega (arith, test, s.long) in
    let same = get_or_default ts i c.index-tiles-i.result no_tile below ∙ s.rest i (omega arith) in
    subst (λ (t : TileValue). IsSome (parcel_at t here)) (sym same) (c.requires.there i (omega (arith, test)))

pub loop-i-preserved : goal.loop-i-preserved
loop-i-preserved c =
    let ts = c.loop-i.tiles in
    let bs = c.loop-i.blocks in
    let i = c.loop-i.i in
    let s = c.loop-i.invariant in
    let test = c.loop-i-test.true in
    let below : i < length ts = omega (arith, test, s.long) in
    let inside : i < length bs = omega (arith, test, s.beside, c.requires.long) in
    swapping_more c.args.tiles.now ts c.args.blocks.now bs i _ c.swap_flux.new.tile _ c.swap_flux.new.block c.requires.long s (omega (arith, test))
    (get_or_default ts i c.index-tiles-i.result no_tile below) (get_or_default bs i c.index-blocks-i.result no_block inside) c.swap_flux.ensures
