use Rattle.std.proofs.Common.{ap, sym, ◌∙◌}
use Rattle.std.proofs.lemmas.Int.{to_z-of_z}
use mir.Syntax.{w32}
use Rattle.pic_grid.specs.Flux.{flux}
use Rattle.pic_grid.specs.Segment.{Piece}
use Rattle.pic_flux.specs.CellFlux.{edge_flux}
use Rattle.pic_push.proofs.GainLaws.{gained_same, gains_same}
use Rattle.pic_push.proofs.PieceLaws.{same_charge, can_take}
use Rattle.pic_push.proofs.sending.send_anywhere.Goals as goal

pub add_anywhere-requires-clause-can : goal.add_anywhere-requires-clause-can
add_anywhere-requires-clause-can c =
    let s = c.args.piece in
    let f = c.of-flux.result in
    let same = same_charge c.args.sub s f c.args.q _ (to_z-of_z w32 c.args.q c.ranges.q) c.of-flux.ensures.flux in
    can_take c.args.sub c.args.q s f c.args.own.now c.args.tile.now c.requires.inside same c.of-flux.ensures.cell c.of-flux.ensures.modest c.requires.open
    c.requires.room

pub add_anywhere-requires-clause-cell : goal.add_anywhere-requires-clause-cell
add_anywhere-requires-clause-cell c = c.of-flux.ensures.cell ∙ sym (ap (λ (t : Piece). t.cell) c.piece.view_is)

pub returns-clause-own : goal.returns-clause-own
returns-clause-own c =
    let s = c.args.piece in
    let f = c.of-flux.result in
    gained_same (edge_flux f) (flux c.args.sub c.args.q s) c.args.own.now c.add_anywhere.new.own
    (same_charge c.args.sub s f c.args.q _ (to_z-of_z w32 c.args.q c.ranges.q) c.of-flux.ensures.flux) c.add_anywhere.ensures.own

pub returns-clause-others : goal.returns-clause-others
returns-clause-others c =
    let s = c.args.piece in
    let f = c.of-flux.result in
    gains_same (edge_flux f) (flux c.args.sub c.args.q s) c.args.tile.now c.add_anywhere.new.tile
    (same_charge c.args.sub s f c.args.q _ (to_z-of_z w32 c.args.q c.ranges.q) c.of-flux.ensures.flux) c.add_anywhere.ensures.others
