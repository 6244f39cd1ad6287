use Rattle.std.proofs.Common.{ap}
use Rattle.pic_yard.specs.declared.opening.Opening.{Opening}
use Rattle.pic_yard.specs.Yards.{view_of}
use Rattle.pic_board_tests.proofs.SeatLaws.{last_new, others_new, fewer, can_work, number_is, all_two}
use Rattle.pic_board_tests.proofs.two_threads.run.Goals as goal

pub work_both-first-requires-clause-first : goal.work_both-first-requires-clause-first
work_both-first-requires-clause-first g c κs within =
    let yard = c.in_ok-yard.yard in
    let seats = c.in_ok-yard.seats.items in
    let left = c.pop.new.self.items in
    let less = c.pop-2.new.self.items in
    can_work yard _ c.in-Some-pop.first
    (last_new yard left less c.in-Some-pop.first
    (others_new yard seats left c.in-Some.second c.in_ok-yard.ensures.new c.in-Some.ensures.items) c.in-Some-pop.ensures.items)

pub work_both-first-requires-clause-second : goal.work_both-first-requires-clause-second
work_both-first-requires-clause-second g c κs within =
    let yard = c.in_ok-yard.yard in
    let seats = c.in_ok-yard.seats.items in
    let left = c.pop.new.self.items in
    can_work yard _ c.in-Some.second (last_new yard seats left c.in-Some.second c.in_ok-yard.ensures.new c.in-Some.ensures.items)

pub close-tiles-requires-clause-all : goal.close-tiles-requires-clause-all
close-tiles-requires-clause-all g c =
    let yard = c.in_ok-yard.yard in
    let seats = c.in_ok-yard.seats.items in
    let left = c.pop.new.self.items in
    let less = c.pop-2.new.self.items in
    let first = c.in-Some-pop.first in
    let second = c.in-Some.second in
    let new = c.in_ok-yard.ensures.new in
    let one = fewer 1 seats left second c.in_ok-yard.ensures.count c.in-Some.ensures.items in
    let none = fewer 0 left less first one c.in-Some-pop.ensures.items in
    let last = last_new yard seats left second new c.in-Some.ensures.items in
    let before = last_new yard left less first (others_new yard seats left second new c.in-Some.ensures.items) c.in-Some-pop.ensures.items in
    all_two _ (view_of c.work_both-first.result.0) (view_of c.work_both-first.result.1) (view_of c.join.new.seat)
    (ap (λ (o : Opening). o.seats) c.in_ok-yard.ensures.opening)
    (number_is yard _ 0 first c.work_both-first.result.0 before c.work_both-first.ensures.first none)
    (number_is yard _ 1 second c.work_both-first.result.1 last c.work_both-first.ensures.second one) c.join.ensures.view
