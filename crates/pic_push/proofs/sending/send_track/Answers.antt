use Rattle.std.proofs.Common.{ℕ, ◌^◌, take, to_z, of_z, sym, subst, ◌∙◌, arith}
use Rattle.std.proofs.Math.IntN.{ℤ}
use Rattle.std.proofs.lemmas.Int.{to_z-of_z}
use Rattle.std.proofs.lemmas.List.{take_all}
use mir.Syntax.{w32}
use Rattle.pic_num.specs.declared.axis.Axis.{Axis}
use Rattle.pic_num.specs.Space.{Spot, triple, spot}
use Rattle.pic_grid.specs.Flux.{flux, path_flux}
use Rattle.pic_grid.specs.Segment.{Piece}
use Rattle.pic_grid.specs.Traces.{IsFluxAtMost}
use Rattle.pic_tile.specs.Directions.{here}
use Rattle.pic_push.specs.Gains.{Gained, Gains}
use Rattle.pic_push.proofs.TrackLaws.{sent_none, sent_more, layers_left, open_left}
use Rattle.pic_push.proofs.sending.send_track.Goals as goal
use Rattle.pic_push.proofs.sending.send_track.Goals.{After-segments-segments}

-- the flux of the first pieces, by the charge as the code passes it on
first_short : (c : After-segments-segments) (k : ℕ)
    → IsFluxAtMost (2 ^ 62) (path_flux c.args.sub (to_z w32 (of_z w32 c.args.q)) (take k c.segments-segments.result.now))
first_short c k =
    let charge = to_z-of_z w32 c.args.q c.ranges.q in
    subst (λ (f : Axis → Spot → ℤ). IsFluxAtMost (2 ^ 62) f)
    (sym (λ i. path_flux c.args.sub (charge i) (take k (c.segments-segments.ensures.value i)))) (c.requires.short k)

pub loop-piece-init : goal.loop-piece-init
loop-piece-init c =
    sent_none c.args.sub (to_z w32 (of_z w32 c.args.q)) c.segments-segments.result.now c.args.own.now c.args.tile.now

pub send_piece-requires-clause-open : goal.send_piece-requires-clause-open
send_piece-requires-clause-open c =
    let i = c.loop-piece.piece-index in
    open_left (path_flux c.args.sub (to_z w32 (of_z w32 c.args.q)) (take i c.segments-segments.result.now)) (spot c.args.zone.low) (triple c.args.zone.size)
    c.args.tile.now c.loop-piece.tile (first_short (goal.at.send_piece-requires-clause-open c).After-segments-segments i) c.requires.open
    c.loop-piece.invariant.others

pub send_piece-requires-clause-room : goal.send_piece-requires-clause-room
send_piece-requires-clause-room c =
    let i = c.loop-piece.piece-index in
    layers_left (path_flux c.args.sub (to_z w32 (of_z w32 c.args.q)) (take i c.segments-segments.result.now)) (spot c.args.zone.low) (triple c.args.zone.size)
    here c.args.own.now c.loop-piece.own (first_short (goal.at.send_piece-requires-clause-room c).After-segments-segments i) c.requires.room
    c.loop-piece.invariant.own_gained

pub loop-piece-preserved : goal.loop-piece-preserved
loop-piece-preserved c =
    let q = to_z w32 (of_z w32 c.args.q) in
    let side = c.args.sub in
    let mid = c.loop-piece.own in
    let new = c.send_piece.new.own in
    let tile = c.loop-piece.tile in
    let tile' = c.send_piece.new.tile in
    let own = subst (λ (s : Piece). Gained (flux side q s) mid new) c.piece-item.is c.send_piece.ensures.own in
    let others = subst (λ (s : Piece). Gains (flux side q s) tile tile') c.piece-item.is c.send_piece.ensures.others in
    sent_more side q c.segments-segments.result.now c.loop-piece.piece-index c.piece-item.result c.args.own.now mid new c.args.tile.now tile tile'
    c.loop-piece-test.true c.loop-piece.invariant own others

pub returns-clause-own : goal.returns-clause-own
returns-clause-own c =
    let charge = to_z-of_z w32 c.args.q c.ranges.q in
    let all = take_all c.loop-piece.piece-index c.segments-segments.result.now (omega (arith, c.loop-piece-test.false)) ∙ c.segments-segments.ensures.value in
    subst (λ (f : Axis → Spot → ℤ). Gained f c.args.own.now c.loop-piece.own) (λ i. path_flux c.args.sub (charge i) (all i)) c.loop-piece.invariant.own_gained

pub returns-clause-others : goal.returns-clause-others
returns-clause-others c =
    let charge = to_z-of_z w32 c.args.q c.ranges.q in
    let all = take_all c.loop-piece.piece-index c.segments-segments.result.now (omega (arith, c.loop-piece-test.false)) ∙ c.segments-segments.ensures.value in
    subst (λ (f : Axis → Spot → ℤ). Gains f c.args.tile.now c.loop-piece.tile) (λ i. path_flux c.args.sub (charge i) (all i)) c.loop-piece.invariant.others
