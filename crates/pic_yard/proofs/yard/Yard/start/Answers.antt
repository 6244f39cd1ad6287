use Rattle.std.proofs.Common.{◌≡◌, ◌+◌, ◌<◌, ◌^◌, ℕ, List, length, replicate, rules, sym, ap, ◌∙◌, subst, arith}
use Rattle.atomic_table.specs.Table.{opening}
use Rattle.pic_tile.specs.Tile.{TileValue}
use Rattle.pic_yard.specs.declared.opening.Opening.{Opening}
use Rattle.pic_yard.specs.Contents.{tiles_in}
use Rattle.pic_yard.specs.Laying.{AreLaid}
use Rattle.pic_yard.specs.Rule.{Rule}
use Rattle.pic_yard.specs.Steps.{first_view}
use Rattle.pic_yard.proofs.BeginLaws.{begins}
use Rattle.pic_yard.proofs.LayLaws.{laid_of}
use Rattle.pic_yard.proofs.yard.Yard.start.Goals as goal

pub new-requires : goal.new-requires
new-requires c =
    let o : Opening = record { frame = c.args.frame; tiles = c.args.tiles; seats = c.args.seats } in
    let words = c.as_slice.result.now in
    let slots = c.in_ok-slots.slots.items in
    let count : length o.tiles.items ≡ tiles_in o = c.requires.opening.fresh.count in
    let tiles : c.count-tiles.result ≡ tiles_in o = c.count-tiles.ensures.value ∙ search rules in
    let zeros : words ≡ replicate (tiles_in o + 1) 0 =
    c.as_slice.ensures.value ∙ c.in_ok-words.ensures.items_if_clones_equal (λ y e. search rules) ∙ ap (λ (n : ℕ). replicate (n + 1) 0) tiles in
    let laid : AreLaid o.tiles.items (length o.tiles.items) slots =
    subst (λ (ts : List TileValue). AreLaid ts (length ts) slots) (c.as_mut_slice.ensures.value) c.in_ok-slots.ensures.laid in
    let most = c.count-tiles.ensures.most in
    let few = c.requires.most in
    let small : tiles_in o + o.seats + 1 < 2 ^ 64 = omega (arith, tiles, most, few) in
    subst (λ (p : Opening). Rule p (opening words slots (first_view p))) (sym c.of-about.ensures)
    (begins o words slots c.sound.ensures c.requires.opening c.requires.some small (laid_of o words slots count zeros laid))
