use Rattle.std.proofs.Common.{ℕ, ◌∙◌, ap, subst}
use Rattle.pic_yard.specs.declared.yard.Yard.{Yard}
use Rattle.pic_yard.specs.Posts.{HasPosted}
use Rattle.pic_yard.specs.Yards.{opening_of}
use Rattle.pic_yard.proofs.PostCalls.{to_found, load_lists, load_parcel}
use Rattle.pic_yard.proofs.yard.Yard.post.Goals as goal

pub send-requires-clause-lists : goal.send-requires-clause-lists
send-requires-clause-lists c =
    let to =
    to_found (opening_of c.args.self.now) c.self.inside.frame c.map.result.now c.args.claim.now
    (record { number = c.claim.inside.number; held = c.claim.inside.held }) c.neighbour-to.result c.args.dir c.neighbour-to.ensures.value
    c.map.ensures.value (c.self.invariant.frame_is ∙ ap (λ (y : Yard). (opening_of y).frame) c.self.view_is) c.claim.view_is in
    load_lists (opening_of c.args.self.now) c.args.seat.now.me.0 c.args.claim.now.number c.neighbour-to.result c.args.dir c.requires.owes to

pub send-requires-clause-parcel : goal.send-requires-clause-parcel
send-requires-clause-parcel c =
    let to =
    to_found (opening_of c.args.self.now) c.self.inside.frame c.map.result.now c.args.claim.now
    (record { number = c.claim.inside.number; held = c.claim.inside.held }) c.neighbour-to.result c.args.dir c.neighbour-to.ensures.value
    c.map.ensures.value (c.self.invariant.frame_is ∙ ap (λ (y : Yard). (opening_of y).frame) c.self.view_is) c.claim.view_is in
    load_parcel (opening_of c.args.self.now) c.args.seat.now.me c.args.claim.now
    (record { number = c.claim.inside.number; held = c.claim.inside.held })
    c.neighbour-to.result c.args.dir c.take_parcel.result c.in-Some.parcel c.requires.serves.sits c.requires.owes to c.claim.view_is
    c.requires.worked c.take_parcel.ensures.taken c.in-Some.is

pub returns-clause-posted : goal.returns-clause-posted
returns-clause-posted c =
    let to =
    to_found (opening_of c.args.self.now) c.self.inside.frame c.map.result.now c.args.claim.now
    (record { number = c.claim.inside.number; held = c.claim.inside.held }) c.neighbour-to.result c.args.dir c.neighbour-to.ensures.value
    c.map.ensures.value (c.self.invariant.frame_is ∙ ap (λ (y : Yard). (opening_of y).frame) c.self.view_is) c.claim.view_is in
    subst (λ (r : ℕ). HasPosted r c.args.dir c.args.seat.now.me.0 c.send.new.seat.me.0 c.send.result) to c.send.ensures.posted
