use Rattle.std.proofs.Common.{refl, sym, ap, ◌∙◌, subst, arith}
use Rattle.atomic_table.specs.Table.{Me}
use Rattle.pic_yard.specs.declared.view.View.{View}
use Rattle.pic_yard.specs.Contents.{Slot}
use Rattle.pic_yard.specs.Inside.{yard_of}
use Rattle.pic_yard.specs.Seats.{gave_next, next_of, next_seat}
use Rattle.pic_yard.specs.Sits.{Sits}
use Rattle.pic_yard.specs.Yards.{opening_of}
use Rattle.pic_yard.proofs.PostCalls.{serves_parts}
use Rattle.pic_yard.proofs.SeatingLaws.{sits_same, new_sits}
use Rattle.pic_yard.proofs.TeamLaws.{split_allowed}
use Rattle.pic_yard.proofs.yard.Yard.split.Goals as goal

pub split_seat-requires : goal.split_seat-requires
split_seat-requires c =
    let serves = serves_parts c.args.self.now c.self.inside c.args.seat.now c.self.view_is c.requires.serves in
    let v = c.args.seat.now.me.0 in
    let sits = serves.sits in (
      serves.own,
      (let words = c.self.invariant.words_are in omega (arith, words)),
      split_allowed (opening_of (yard_of c.self.inside))
          c.args.seat.now.id v (next_of v.unmade) sits.live sits.opened c.requires.next,
    )

pub returns-clause-serves : goal.returns-clause-serves
returns-clause-serves c =
    let o = opening_of c.args.self.now in
    let v = c.args.seat.now.me.0 in
    let slots = c.args.seat.now.me.1 in
    let sits = c.requires.serves.sits in
    record {
      own = c.split_seat.ensures.0 ∙ c.requires.serves.own;
      sits = subst (λ (me : Me Slot View). Sits o me) (sym c.split_seat.ensures.2) (sits_same o v (gave_next v) slots sits sits.live sits.opened refl refl);
    }

pub returns-clause-view : goal.returns-clause-view
returns-clause-view c = ap (λ (me : Me Slot View). me.0) c.split_seat.ensures.2

pub returns-clause-made : goal.returns-clause-made
returns-clause-made c =
    let o = opening_of c.args.self.now in
    let v = c.args.seat.now.me.0 in
    let sits = c.requires.serves.sits in
    record {
      own = c.split_seat.ensures.3 ∙ c.requires.serves.own;
      sits = subst (λ (me : Me Slot View). Sits o me) (sym c.split_seat.ensures.4)
          (new_sits o (next_seat v) sits.sound sits.opens sits.live sits.opened refl refl);
    }

pub returns-clause-made_view : goal.returns-clause-made_view
returns-clause-made_view c = ap (λ (me : Me Slot View). me.0) c.split_seat.ensures.4
