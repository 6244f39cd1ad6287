use Rattle.std.proofs.Common.{refl, sym, ap, ◌∙◌, subst, arith}
use Rattle.atomic_table.specs.Table.{Me}
use Rattle.pic_yard.specs.Fronts.{seek}
use Rattle.pic_yard.specs.declared.view.View.{View}
use Rattle.pic_yard.specs.Contents.{Slot}
use Rattle.pic_yard.specs.Inside.{yard_of}
use Rattle.pic_yard.specs.Sits.{slot_at, Sits}
use Rattle.pic_yard.specs.Steps.{took_in}
use Rattle.pic_yard.specs.Yards.{opening_of}
use Rattle.pic_yard.proofs.PostCalls.{serves_parts}
use Rattle.pic_yard.proofs.SeatingLaws.{sits_same, idle_empty}
use Rattle.pic_yard.proofs.TeamLaws.{join_allowed}
use Rattle.pic_yard.proofs.yard.Yard.join.Goals as goal

pub join_seat-requires : goal.join_seat-requires
join_seat-requires c =
    let o = opening_of (yard_of c.self.inside) in
    let serves = serves_parts c.args.self.now c.self.inside c.args.seat.now c.self.view_is c.requires.serves in
    let other = serves_parts c.args.self.now c.self.inside c.args.other c.self.view_is c.requires.other in
    let v = c.args.seat.now.me.0 in
    let u = c.args.other.me.0 in
    let sits = serves.sits in
    let ended = c.requires.ended in (
      serves.own,
      other.own,
      idle_empty o u c.args.other.me.1 other.sits.carries ended.idle,
      (let words = c.self.invariant.words_are in omega (arith, words)),
      join_allowed o c.args.seat.now.id v c.args.other.id u sits.live sits.opened other.sits.live ended.told ended.idle.owes ended.idle.rights,
    )

pub returns-clause-serves : goal.returns-clause-serves
returns-clause-serves c =
    let o = opening_of c.args.self.now in
    let v = c.args.seat.now.me.0 in
    let u = c.args.other.me.0 in
    let slots = c.args.seat.now.me.1 in
    let sits = c.requires.serves.sits in
    record {
      own = c.join_seat.ensures.0 ∙ c.requires.serves.own;
      sits = subst (λ (me : Me Slot View). Sits o me) (sym c.join_seat.ensures.2) (sits_same o v (took_in v u) slots sits sits.live sits.opened refl refl);
    }

pub returns-clause-view : goal.returns-clause-view
returns-clause-view c = ap (λ (me : Me Slot View). me.0) c.join_seat.ensures.2

pub returns-clause-mail : goal.returns-clause-mail
returns-clause-mail c r d is below = ap (λ (me : Me Slot View). seek (slot_at r d) me.1) c.join_seat.ensures.2
