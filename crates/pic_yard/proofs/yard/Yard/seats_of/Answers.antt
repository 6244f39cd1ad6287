use Rattle.std.proofs.Common.{◌+◌, List, sym, ap, ◌∙◌, subst, arith}
use Rattle.atomic_table.specs.declared.shared.Seat.{Seat}
use Rattle.pic_yard.specs.declared.view.View.{View}
use Rattle.pic_yard.specs.Contents.{Slot}
use Rattle.pic_yard.specs.Seats.{gave_next, next_seat}
use Rattle.pic_yard.proofs.Turns.{AreMade}
use Rattle.pic_yard.specs.Yards.{opening_of, view_of}
use Rattle.pic_yard.proofs.RowLaws.{has_next, made_more, all_made}
use Rattle.pic_yard.proofs.yard.Yard.seats_of.Goals as goal

pub split-made-requires-clause-next : goal.split-made-requires-clause-next
split-made-requires-clause-next c =
    let d = c.index_mut.result.now in
    let is = c.index_mut.ensures.value in
    has_next (opening_of c.args.self.now) c.args.seats c.loop.counter (view_of d) c.loop-test.true
    (ap (λ (s : Seat Slot View). view_of s) is ∙ (c.loop.invariant.first d).view)

pub loop-preserved : goal.loop-preserved
loop-preserved c =
    let y = c.args.self.now in
    let n = c.args.seats in
    let k = c.loop.counter in
    let d = c.index_mut.result.now in
    let is = c.index_mut.ensures.value in
    let s = c.split-made.ensures in
    subst (λ (row : List (Seat Slot View)). AreMade y n (k + 1) row) (sym c.in_ok-push-2.ensures.items)
    (made_more y n k c.loop.row.items d c.split-made.new.seat c.split-made.result c.loop.invariant c.loop-test.true
    s.serves (s.view ∙ ap (λ (t : Seat Slot View). gave_next (view_of t)) is) s.made (s.made_view ∙ ap (λ (t : Seat Slot View). next_seat (view_of t)) is))

pub returns-clause-new : goal.returns-clause-new
returns-clause-new c =
    let y = c.args.self.now in
    let n = c.args.seats in
    all_made y n c.loop.row.items (subst (λ k. AreMade y n k c.loop.row.items) (omega arith) c.loop.invariant)
