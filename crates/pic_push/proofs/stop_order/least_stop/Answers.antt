use Rattle.std.proofs.Common.{◌<◌, ◌-◌, Option, length, refl, ◌∙◌, ap, arith}
use Rattle.std.proofs.lemmas.List.{get_or_default}
use Rattle.pic_grid.specs.declared.stop.Stop.{Stop}
use Rattle.pic_tile.specs.StopOf.{lesser}
use Rattle.pic_tile.specs.Directions.{here}
use Rattle.pic_tile.specs.Tile.{TileValue, no_tile, stop_at, tile_in}
use Rattle.pic_push.proofs.LeastLaws.{least_none, least_more, least_all}
use Rattle.pic_push.proofs.stop_order.least_stop.Goals as goal

pub loop-done-init : goal.loop-done-init
loop-done-init c = least_none c.args.tiles.now

pub loop-done-preserved : goal.loop-done-preserved
loop-done-preserved c =
    let ts = c.args.tiles.now in
    let done = c.loop-done.done in
    let at = length ts - 1 - done in
    let below : at < length ts = omega arith in
    let found = c.index-tiles-tiles.is ∙ get_or_default ts at c.index-tiles-tiles.result no_tile below in
    let stop = c.stop_of.ensures ∙ ap (λ (t : TileValue). stop_at t here) found in
    c.lesser-least.ensures
    ∙ ap (λ (s : Option Stop). lesser s c.loop-done.least) stop
    ∙ ap (λ (s : Option Stop). lesser (stop_at (tile_in ts at) here) s) c.loop-done.invariant
    ∙ least_more ts done at c.loop-done-test.true refl

pub returns : goal.returns
returns c = c.loop-done.invariant ∙ least_all c.args.tiles.now c.loop-done.done (omega arith)
