use Rattle.std.proofs.Common.{◌^◌, ◌+◌, ◌*◌, ℤ, unsigned_abs, ap, subst, ◌∙◌, arith}
use mir.Syntax.{w32}
use Rattle.std.proofs.lemmas.Int.{to_z-of_z}
use Rattle.pic_block.specs.Block.{AllAtMost}
use Rattle.pic_block.proofs.BlockLaws.{all_at_most_more}
use Rattle.pic_grid.specs.Flux.{flux}
use Rattle.pic_flux.specs.Adds.{Adds, flux_limit}
use Rattle.pic_flux.specs.CellFlux.{edge_flux}
use Rattle.pic_flux.proofs.AddsLaws.{adds_grow, adds_same, room_before}
use Rattle.pic_flux.proofs.FluxSizeLaws.{flux_most, charge_few}
use Rattle.pic_flux.proofs.deposits.deposit.Goals as goal
use Rattle.pic_flux.proofs.deposits.deposit.Goals.{After-side-side}

-- what the room for the sums says of the values before
room_at : (c : After-side-side) → AllAtMost (2 ^ 100) c.args.to.now
room_at c =
    let few = charge_few c.args.sub c.args.q c.side-side.ensures.most c.ranges.q in
    all_at_most_more c.args.to.now (flux_limit + unsigned_abs c.args.q * c.args.sub * (12 * (c.args.sub * c.args.sub))) (2 ^ 100) (omega (arith, few))
    (room_before c.args.to.now (flux c.args.sub c.args.q c.args.seg.now) (unsigned_abs c.args.q * c.args.sub * (12 * (c.args.sub * c.args.sub)))
    (flux_most c.args.sub c.args.q c.args.seg.now c.requires.inside) c.requires.room)

pub deposit_inside-requires-clause-room : goal.deposit_inside-requires-clause-room
deposit_inside-requires-clause-room c = room_at (goal.at.deposit_inside-requires-clause-room c).After-side-side

pub add_to-requires-clause-room : goal.add_to-requires-clause-room
add_to-requires-clause-room c = room_at (goal.at.add_to-requires-clause-room c).After-side-side

pub returns-then-has_edges-clause-grows : goal.returns-then-has_edges-clause-grows
returns-then-has_edges-clause-grows c =
    let old = c.args.to.now in
    let now = c.deposit_inside.new.to in
    let s = c.args.seg.now in
    let side = c.args.sub in
    let added = subst (λ (q : ℤ). Adds old now (flux side q s)) (to_z-of_z w32 c.args.q c.ranges.q) c.deposit_inside.ensures.values in
    λ n room.
    adds_grow old now (flux side c.args.q s) n (unsigned_abs c.args.q * side * (12 * (side * side))) c.deposit_inside.ensures.shape added
    (flux_most side c.args.q s c.requires.inside) room

pub returns-else-has_edges-clause-values : goal.returns-else-has_edges-clause-values
returns-else-has_edges-clause-values c =
    let s = c.args.seg.now in
    let side = c.args.sub in
    adds_same c.args.to.now c.add_to.new.to (edge_flux c.of.result) (flux side c.args.q s)
    (λ a p. c.of.ensures.flux a p ∙ ap (λ (q : ℤ). flux side q s a p) (to_z-of_z w32 c.args.q c.ranges.q)) c.add_to.ensures.values

pub returns-else-has_edges-clause-grows : goal.returns-else-has_edges-clause-grows
returns-else-has_edges-clause-grows c =
    let s = c.args.seg.now in
    let side = c.args.sub in
    let added = adds_same c.args.to.now c.add_to.new.to (edge_flux c.of.result) (flux side c.args.q s)
    (λ a p. c.of.ensures.flux a p ∙ ap (λ (q : ℤ). flux side q s a p) (to_z-of_z w32 c.args.q c.ranges.q)) c.add_to.ensures.values in
    λ n room.
    adds_grow c.args.to.now c.add_to.new.to (flux side c.args.q s) n (unsigned_abs c.args.q * side * (12 * (side * side))) c.add_to.ensures.shape added
    (flux_most side c.args.q s c.requires.inside) room
