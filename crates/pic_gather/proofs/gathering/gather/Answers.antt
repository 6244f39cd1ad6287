use Rattle.std.proofs.Common.{sym, ◌∙◌}
use Rattle.pic_num.specs.Space.{triple}
use Rattle.pic_gather.proofs.PlaceLaws.{e_is, b_is}
use Rattle.pic_gather.proofs.gathering.gather.Goals as goal

pub returns-clause-e : goal.returns-clause-e
returns-clause-e c =
    let cells = c.cells-cells.ensures in
    e_is c.args.force_e.now _ (triple c.args.point) _ cells.value cells.side c.places_of-at.ensures _ c.layered_components.ensures.value

pub returns-clause-b : goal.returns-clause-b
returns-clause-b c =
    let cells = c.cells-cells.ensures in
    let h = c.requires in
    b_is c.args.force_b.now _ (triple c.args.point) _ (cells.value ∙ sym h.cells) (cells.side ∙ sym h.side) c.places_of-at.ensures _
    c.layered_components-2.ensures.value
