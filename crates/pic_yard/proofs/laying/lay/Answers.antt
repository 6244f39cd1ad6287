use Rattle.std.proofs.Common.{◌≡◌, ◌<◌, ◌+◌, List, [], ◌∷◌, ◌++◌, set, length, Option, Some, subst, sym, ap, ◌∙◌, arith}
use Rattle.std.proofs.lemmas.List.{get_or_default}
use Rattle.pic_tile.specs.Tile.{TileValue, no_tile, tile_in}
use Rattle.pic_yard.specs.declared.slot_content.SlotContent.TheVariants as holds
use Rattle.pic_yard.specs.Contents.{Slot}
use Rattle.pic_yard.proofs.Turns.{IsLaying}
use Rattle.pic_yard.proofs.LayLaws.{laying_none, laying_more}
use Rattle.pic_yard.proofs.laying.lay.Goals as goal

pub loop-t-init : goal.loop-t-init
loop-t-init c =
    subst (λ (xs : List Slot). IsLaying c.args.tiles.now c.args.tiles.now 0 xs) (sym c.in_ok-slots.ensures.items) (laying_none c.args.tiles.now)

pub loop-t-preserved : goal.loop-t-preserved
loop-t-preserved c =
    let ts = c.loop-t.tiles in
    let t = c.loop-t.t in
    let u = c.replace-tile.new.dest in
    let inside : t < length ts = omega arith in
    let taken : c.replace-tile.result ≡ tile_in ts t = c.replace-tile.ensures.value ∙ get_or_default ts t c.index-tiles-t.result no_tile inside in
    let laid : c.push.new.self.items ≡ c.lay_boxes.new.slots.items ++ Some (holds.Tile (Some (tile_in ts t))) ∷ [] =
    c.in_ok-push.ensures.items ∙ ap (λ (place : Option TileValue). c.lay_boxes.new.slots.items ++ Some (holds.Tile place) ∷ [])
    (c.in_ok-berth.ensures ∙ ap (λ (v : TileValue). Some v) taken) in
    subst (λ (ys : List Slot). IsLaying c.args.tiles.now (set ts t u) (t + 1) ys) (sym laid)
    (laying_more c.args.tiles.now ts t c.loop-t.slots.items c.lay_boxes.new.slots.items u inside c.loop-t.invariant c.in_ok-lay_boxes.ensures)
