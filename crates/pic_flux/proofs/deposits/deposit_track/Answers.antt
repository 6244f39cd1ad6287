use Rattle.std.proofs.Common.{◌≡◌, ℤ, to_z, of_z, subst, sym, ◌∙◌, ◌+◌, take, arith}
use mir.Syntax.{w32}
use Rattle.std.proofs.lemmas.Int.{to_z-of_z}
use Rattle.std.proofs.lemmas.List.{take_all}
use Rattle.pic_num.specs.declared.axis.Axis.{Axis}
use Rattle.pic_num.specs.Space.{Spot}
use Rattle.pic_block.proofs.BlockLaws.{shaped_twice}
use Rattle.pic_block.proofs.ShapeLaws.{shaped_same}
use Rattle.pic_grid.specs.Flux.{flux, path_flux}
use Rattle.pic_grid.specs.Segment.{Piece}
use Rattle.pic_grid.proofs.FluxLaws.{path_flux_most}
use Rattle.pic_flux.specs.Adds.{Adds, SumsBelow}
use Rattle.pic_flux.proofs.AddsLaws.{adds_start, adds_more, adds_grow, room_next}
use Rattle.pic_flux.proofs.deposits.deposit_track.Goals as goal

pub loop-seg-init : goal.loop-seg-init
unfolding path_flux
loop-seg-init c = record {
  shape = shaped_same c.args.to.now;
  values = adds_start c.args.to.now (flux c.args.sub (to_z w32 (of_z w32 c.args.q))) c.segments-segments.result.now;
}

pub deposit-requires-clause-room : goal.deposit-requires-clause-room
unfolding path_flux
deposit-requires-clause-room c =
    let old = c.args.to.now in
    let q = to_z w32 (of_z w32 c.args.q) in
    let i = c.loop-seg.seg-index in
    let segments = c.segments-segments.result.now in
    let charge : q ≡ c.args.q = to_z-of_z w32 c.args.q c.ranges.q in
    let room : SumsBelow old (path_flux c.args.sub q (take (i + 1) segments)) =
    subst (λ (f : Axis → Spot → ℤ). SumsBelow old f)
    (sym (λ j. path_flux c.args.sub (charge j) (take (i + 1) (c.segments-segments.ensures.value j)))) (c.requires.room (i + 1)) in
    subst (λ (s : Piece). SumsBelow c.loop-seg.to (flux c.args.sub q s)) (sym c.seg-item.is)
    (room_next old c.loop-seg.to (flux c.args.sub q) segments i c.seg-item.result c.loop-seg-test.true
    c.loop-seg.invariant.shape c.loop-seg.invariant.values room)

pub loop-seg-preserved : goal.loop-seg-preserved
unfolding path_flux
loop-seg-preserved c =
    let old = c.args.to.now in
    let mid = c.loop-seg.to in
    let now = c.deposit.new.to in
    let q = to_z w32 (of_z w32 c.args.q) in
    let segments = c.segments-segments.result.now in
    let added = subst (λ (s : Piece). Adds mid now (flux c.args.sub q s)) c.seg-item.is c.deposit.ensures.values in
    record {
      shape = shaped_twice old mid now c.loop-seg.invariant.shape c.deposit.ensures.shape;
      values = adds_more old mid now (flux c.args.sub q) segments c.loop-seg.seg-index c.seg-item.result
          c.loop-seg-test.true c.loop-seg.invariant.shape c.loop-seg.invariant.values added;
    }

pub returns : goal.returns
returns c =
    let old = c.args.to.now in
    let now = c.loop-seg.to in
    let q = c.args.q in
    let track = c.args.track.now in
    let shape = c.loop-seg.invariant.shape in
    let charge : to_z w32 (of_z w32 q) ≡ q = to_z-of_z w32 q c.ranges.q in
    let all = take_all c.loop-seg.seg-index c.segments-segments.result.now (omega (arith, c.loop-seg-test.false)) ∙ c.segments-segments.ensures.value in
    let values : Adds old now (path_flux c.args.sub q track) =
    subst (λ (f : Axis → Spot → ℤ). Adds old now f) (λ i. path_flux c.args.sub (charge i) (all i)) c.loop-seg.invariant.values in
    record {
      shape = shape;
      values = values;
      grows = λ m short n room.
          adds_grow old now (path_flux c.args.sub q track) n _ shape values
          (λ a p. path_flux_most c.args.sub q track a p m (short a)) room;
    }
