use Rattle.std.proofs.Common.{sym, subst}
use Rattle.std.proofs.lemmas.Int.{to_z-of_z}
use mir.Syntax.{w32}
use Rattle.pic_num.specs.Space.{Spot}
use Rattle.pic_grid.specs.Flux.{flux}
use Rattle.pic_flux.specs.CellFlux.{edge_flux}
use Rattle.pic_push.specs.Region.{IsLastOn}
use Rattle.pic_push.proofs.GainLaws.{gained_same, gains_same}
use Rattle.pic_push.proofs.PieceLaws.{same_charge, can_take}
use Rattle.pic_push.proofs.sending.send_at_edge.Goals as goal

pub add_at_edge-requires : goal.add_at_edge-requires
add_at_edge-requires g c =
    let s = c.args.piece in
    let f = c.of-flux.result in
    let own = c.args.own.now in
    let same = same_charge c.args.sub s f c.args.q _ (to_z-of_z w32 c.args.q c.ranges.q) c.of-flux.ensures.flux in
    record {
      ups = c.requires.ups;
      can = can_take c.args.sub c.args.q s f own c.args.tile.now c.requires.inside same c.of-flux.ensures.cell c.of-flux.ensures.modest c.requires.open
          c.requires.room;
      edge = subst (λ (e : Spot). IsLastOn g.row.FAR own.flux.low own.flux.size e) (sym c.of-flux.ensures.cell) c.requires.edge;
    }

pub returns-clause-own : goal.returns-clause-own
returns-clause-own g c =
    let s = c.args.piece in
    let f = c.of-flux.result in
    gained_same (edge_flux f) (flux c.args.sub c.args.q s) c.args.own.now c.add_at_edge.new.own
    (same_charge c.args.sub s f c.args.q _ (to_z-of_z w32 c.args.q c.ranges.q) c.of-flux.ensures.flux) c.add_at_edge.ensures.own

pub returns-clause-others : goal.returns-clause-others
returns-clause-others g c =
    let s = c.args.piece in
    let f = c.of-flux.result in
    gains_same (edge_flux f) (flux c.args.sub c.args.q s) c.args.tile.now c.add_at_edge.new.tile
    (same_charge c.args.sub s f c.args.q _ (to_z-of_z w32 c.args.q c.ranges.q) c.of-flux.ensures.flux) c.add_at_edge.ensures.others
