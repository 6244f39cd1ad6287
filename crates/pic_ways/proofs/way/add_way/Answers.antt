use Rattle.std.proofs.Common.{◌≡◌, ℕ, ◌<◌, ◌≤◌, take, Some, ap, sym, subst, ◌∙◌, arith}
use Rattle.std.proofs.Math.IntN.{ℤ}
use mir.Syntax.{w32}
use mir.Val.{to_z, of_z}
use Rattle.pic_num.specs.declared.axis.Axis.{Axis}
use Rattle.pic_num.specs.Limits.{most_side}
use Rattle.pic_num.specs.Space.{Spot, triple, spot, unwrapped}
use Rattle.pic_num.proofs.SizeLaws.{codes, code_is}
use Rattle.pic_grid.specs.Flux.{path_flux}
use Rattle.pic_grid.specs.Path.{path}
use Rattle.pic_flux.specs.Adds.{Adds, SumsBelow}
use Rattle.pic_flux.proofs.AddsLaws.{adds_grow}
use Rattle.pic_ways.specs.Way.{way_flux}
use Rattle.pic_ways.proofs.WaySizeLaws.{leads_inside, front_most, way_most, room_for}
use Rattle.pic_ways.proofs.way.add_way.Goals as goal

pub deposit_track-requires-clause-inside : goal.deposit_track-requires-clause-inside
deposit_track-requires-clause-inside c = leads_inside c.sub-sub.result c.split-track.ensures.leads

pub deposit_track-requires-clause-room : goal.deposit_track-requires-clause-room
deposit_track-requires-clause-room c = λ k.
    let w = c.args.way.now in
    let side : c.sub-sub.result ≡ c.args.cells.side = c.sub-sub.ensures in
    let least : 0 < c.args.cells.side = omega (arith, c.side-side.ensures.least, side) in
    let most : c.args.cells.side ≤ most_side = omega (arith, c.side-side.ensures.most, side) in
    let small = c.requires.way.charge in
    let charge : to_z w32 (of_z w32 w.charge) ≡ w.charge = code_is (search codes depth 6) tt in
    let track = c.split-track.ensures.value ∙ ap (λ (s : ℕ). path s (unwrapped (triple w.from)) (spot w.by)) side in
    subst (λ (f : Axis → Spot → ℤ). SumsBelow c.args.to.now f) (sym (λ t. path_flux (side t) (charge t) (take k (track t))))
    (room_for c.args.to.now _ c.requires.room (front_most c.args.cells.side c.args.cells.n w least most c.requires.way k))

pub returns-clause-values : goal.returns-clause-values
unfolding way_flux
returns-clause-values c =
    let w = c.args.way.now in
    let side : c.sub-sub.result ≡ c.args.cells.side = c.sub-sub.ensures in
    let small = c.requires.way.charge in
    let charge : to_z w32 (of_z w32 w.charge) ≡ w.charge = code_is (search codes depth 6) tt in
    let track = c.split-track.ensures.value ∙ ap (λ (s : ℕ). path s (unwrapped (triple w.from)) (spot w.by)) side in
    subst (λ (f : Axis → Spot → ℤ). Adds c.args.to.now c.deposit_track.new.to f) (λ t. path_flux (side t) (charge t) (track t)) c.deposit_track.ensures.values

pub returns-clause-grows : goal.returns-clause-grows
returns-clause-grows c = λ n room.
    let side : c.sub-sub.result ≡ c.args.cells.side = c.sub-sub.ensures in
    let least : 0 < c.args.cells.side = omega (arith, c.side-side.ensures.least, side) in
    let most : c.args.cells.side ≤ most_side = omega (arith, c.side-side.ensures.most, side) in
    adds_grow c.args.to.now c.deposit_track.new.to (way_flux c.args.cells.side (Some c.args.way.now)) n _ c.deposit_track.ensures.shape
    (returns-clause-values c) (way_most c.args.cells.side c.args.cells.n c.args.way.now least most c.requires.way) room
