use Rattle.std.proofs.Common.{◌≡◌, ◌<◌, ◌≤◌, List, ap, ◌∙◌, sym, subst, arith}
use Rattle.pic_num.specs.declared.motion.Particle.{Particle}
use Rattle.pic_num.specs.Limits.{most_side}
use Rattle.pic_num.specs.Space.{spot, triple}
use Rattle.pic_chain.specs.Links.{particle_of}
use Rattle.pic_block.specs.Cells.{Grid}
use Rattle.pic_tile.specs.Frame.{felt_in}
use Rattle.pic_tile.specs.Layers.{lowest_cell}
use Rattle.pic_tile.specs.declared.parcel.Parcel.{Parcel}
use Rattle.pic_push.proofs.PushingLaws.{Pushing, pushing_none, pushing_more, pushing_all, next_of, own_room, still_open}
use Rattle.pic_push.proofs.tile_push.push_chain.Goals as goal

pub loop-node-init : goal.loop-node-init
loop-node-init c =
    let f = c.args.frame.now in
    let own = c.args.own.now in
    let emptied : Parcel = record own { chain = c.take-rest.new.self } in
    subst (λ (rest : List Particle). Pushing (felt_in f) f.map f.kinds own.chain rest c.args.tile.now.number emptied c.args.tile.now)
    (sym c.take-rest.ensures.taken)
    (pushing_none (felt_in f) f.map f.kinds own.chain own emptied c.args.tile.now c.requires.opened (λ i. record own { chain = c.take-rest.ensures.left i })
    c.requires.particles)

pub loop-node-preserved : goal.loop-node-preserved
loop-node-preserved c =
    let f = c.args.frame.now in
    pushing_more (felt_in f) f.map f.kinds c.args.own.now.chain c.loop-node.rest c.pop.new.self c.args.tile.now.number c.loop-node.own c.push_node.new.own
    c.loop-node.tile c.push_node.new.tile (particle_of c.in-Some.node.value) c.in-Some.ensures c.loop-node.invariant
    c.push_node.ensures.own c.push_node.ensures.others

pub returns : goal.returns
returns c =
    let f = c.args.frame.now in
    let none = c.in_default.ensures in
    pushing_all (felt_in f) f.map f.kinds c.args.own.now.chain c.loop-node.rest c.args.tile.now.number c.loop-node.own c.loop-node.tile
    none.0 c.loop-node.invariant

pub push_node-requires-clause-of : goal.push_node-requires-clause-of
push_node-requires-clause-of c =
    let f = c.args.frame.now in
    next_of (felt_in f) f.map f.kinds c.args.own.now.chain c.loop-node.rest c.pop.new.self c.args.tile.now.number c.loop-node.own c.loop-node.tile
    (particle_of c.in-Some.node.value) c.in-Some.ensures c.loop-node.invariant

pub push_node-requires-clause-open : goal.push_node-requires-clause-open
push_node-requires-clause-open c =
    let f = c.args.frame.now in
    let flux = c.requires.opened.own_is.flux in
    let is = c.cells.ensures.frame in
    let side : c.sub.result ≡ f.force_e.side = c.sub.ensures ∙ ap (λ (g : Grid). g.side) c.cells.ensures.value ∙ sym is.e.side in
    let low : spot c.zone-zone.result.low ≡ lowest_cell f.map c.args.tile.now.number = c.zone-zone.ensures.low ∙ flux.low in
    let size : triple c.zone-zone.result.size ≡ f.map.size = c.zone-zone.ensures.size ∙ flux.size in
    let least : 0 < f.force_e.side = omega (arith, side, c.side-side.ensures.least) in
    let most : f.force_e.side ≤ most_side = omega (arith, side, c.side-side.ensures.most) in
    still_open (felt_in f) f.map f.kinds c.args.own.now.chain c.loop-node.rest c.args.tile.now.number c.loop-node.own c.loop-node.tile
    (spot c.zone-zone.result.low) (triple c.zone-zone.result.size) least most is.kinds_are.limits c.requires.few low size c.loop-node.invariant

pub push_node-requires-clause-room : goal.push_node-requires-clause-room
push_node-requires-clause-room c =
    let f = c.args.frame.now in
    let flux = c.requires.opened.own_is.flux in
    let is = c.cells.ensures.frame in
    let side : c.sub.result ≡ f.force_e.side = c.sub.ensures ∙ ap (λ (g : Grid). g.side) c.cells.ensures.value ∙ sym is.e.side in
    let low : spot c.zone-zone.result.low ≡ lowest_cell f.map c.args.tile.now.number = c.zone-zone.ensures.low ∙ flux.low in
    let size : triple c.zone-zone.result.size ≡ f.map.size = c.zone-zone.ensures.size ∙ flux.size in
    let least : 0 < f.force_e.side = omega (arith, side, c.side-side.ensures.least) in
    let most : f.force_e.side ≤ most_side = omega (arith, side, c.side-side.ensures.most) in
    own_room (felt_in f) f.map f.kinds c.args.own.now.chain c.loop-node.rest c.args.tile.now.number c.loop-node.own c.loop-node.tile
    (spot c.zone-zone.result.low) (triple c.zone-zone.result.size) least most is.kinds_are.limits c.requires.few low size c.loop-node.invariant
