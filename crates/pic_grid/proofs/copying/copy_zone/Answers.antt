use Rattle.std.proofs.Common.{ℤ, List, length, drop, sym, ◌∙◌, ap, subst}
use Rattle.std.proofs.lemmas.List.{take_at}
use Rattle.pic_num.specs.Space.{Triple, Spot, triple}
use Rattle.pic_block.specs.Block.{outer_of}
use Rattle.pic_grid.specs.Copying.{AreValuesOf, IsCopied}
use Rattle.pic_grid.specs.Parts.{origin}
use Rattle.pic_grid.proofs.CopyLaws.{copied_block}
use Rattle.pic_grid.proofs.copying.copy_zone.Goals as goal

pub returns : goal.returns
returns c =
    let f = c.args.from.now in
    let b = c.args.to.now in
    let low = triple c.lowest_of-low.result in
    let values = c.copy_rows.new.to in
    let all = take_at values (drop (length values) b.values) (length b.values) (c.copy_rows.auto.to ∙ ap length c.values_mut.ensures.value) in
    let are = subst (λ (m : Triple). AreValuesOf f low m values) c.zone-zone.ensures.size c.copy_rows.ensures in
    let low_is = c.lowest_of-low.ensures ∙ ap (λ (l : Spot). outer_of l origin) c.zone-zone.ensures.low in
    subst (λ (xs : List ℤ). IsCopied f b (record b { values = xs })) (sym all) (copied_block f b low values low_is are)
