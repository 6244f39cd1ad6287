use Rattle.std.proofs.Common.{◌^◌, take, ap, sym, subst, rules, ◌∙◌, arith}
use Rattle.std.proofs.Math.IntN.{ℤ}
use Rattle.std.proofs.lemmas.Int.{to_z-of_z}
use mir.Syntax.{w32}
use mir.Val.{SFits}
use Rattle.pic_num.specs.declared.axis.Axis.{Axis}
use Rattle.pic_num.specs.Space.{Spot, triple, spot, unwrapped}
use Rattle.pic_grid.specs.Flux.{flux, path_flux}
use Rattle.pic_grid.specs.Path.{path}
use Rattle.pic_grid.specs.Traces.{IsFluxAtMost}
use Rattle.pic_tile.specs.Directions.{here}
use Rattle.pic_push.specs.Gains.{Gains}
use Rattle.pic_push.specs.Paths.{flux_along}
use Rattle.pic_push.proofs.FitLaws.{pieces_inside, path_short, lone_flux}
use Rattle.pic_push.proofs.GainLaws.{gained_same, gains_same}
use Rattle.pic_push.proofs.TrackLaws.{layers_more, open_more}
use Rattle.pic_push.proofs.sending.send_flux.Goals as goal

pub send_piece-requires-clause-open : goal.send_piece-requires-clause-open
send_piece-requires-clause-open g c = open_more (spot c.args.zone.low) (triple c.args.zone.size) c.args.tile.now c.requires.open

pub send_piece-requires-clause-room : goal.send_piece-requires-clause-room
send_piece-requires-clause-room g c = layers_more (spot c.args.zone.low) (triple c.args.zone.size) here c.args.own.now c.requires.room

pub send_track-requires-clause-inside : goal.send_track-requires-clause-inside
send_track-requires-clause-inside g c = pieces_inside c.args.path.now.sub c.split-track.ensures.leads

pub send_track-requires-clause-short : goal.send_track-requires-clause-short
send_track-requires-clause-short g c =
    let p = c.args.path.now in
    let fits : SFits w32 p.charge = search rules in
    λ k. subst (λ (q : ℤ). IsFluxAtMost (2 ^ 62) (path_flux p.sub q (take k c.split-track.result))) (sym (to_z-of_z w32 p.charge fits))
    (path_short p.sub (unwrapped (triple p.from)) (spot p.by) p.charge c.split-track.result (omega (arith, c.side-side.ensures))
    (omega (arith, c.side-side.ensures)) c.split-track.ensures.value c.requires.path.by c.requires.path.charge k)

pub returns-in-Some-clause-own : goal.returns-in-Some-clause-own
returns-in-Some-clause-own g c =
    let p = c.args.path.now in
    let fits : SFits w32 p.charge = search rules in
    let one = sym c.lone.ensures.piece ∙ c.in-Some.is in
    gained_same _ (flux_along p) c.args.own.now c.send_piece.new.own
    (λ a e. ap (λ (q : ℤ). flux p.sub q c.in-Some.piece a e) (to_z-of_z w32 p.charge fits)
    ∙ sym (lone_flux p.sub p.charge (path p.sub (unwrapped (triple p.from)) (spot p.by)) c.in-Some.piece a e one)) c.send_piece.ensures.own

pub returns-in-Some-clause-others : goal.returns-in-Some-clause-others
returns-in-Some-clause-others g c =
    let p = c.args.path.now in
    let fits : SFits w32 p.charge = search rules in
    let one = sym c.lone.ensures.piece ∙ c.in-Some.is in
    gains_same _ (flux_along p) c.args.tile.now c.send_piece.new.tile
    (λ a e. ap (λ (q : ℤ). flux p.sub q c.in-Some.piece a e) (to_z-of_z w32 p.charge fits)
    ∙ sym (lone_flux p.sub p.charge (path p.sub (unwrapped (triple p.from)) (spot p.by)) c.in-Some.piece a e one)) c.send_piece.ensures.others

pub returns-in-None-clause-others : goal.returns-in-None-clause-others
returns-in-None-clause-others g c =
    let p = c.args.path.now in
    let fits : SFits w32 p.charge = search rules in
    let charge = to_z-of_z w32 p.charge fits in
    subst (λ (f : Axis → Spot → ℤ). Gains f c.args.tile.now c.send_track.new.tile)
    (λ i. path_flux p.sub (charge i) (c.split-track.ensures.value i)) c.send_track.ensures.others
