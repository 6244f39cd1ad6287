use Rattle.std.proofs.Common.{ap}
use Rattle.pic_yard.specs.declared.opening.Opening.{Opening}
use Rattle.pic_yard.specs.Yards.{view_of}
use Rattle.pic_board_tests.proofs.SeatLaws.{last_new, fewer, can_work, number_is, all_one}
use Rattle.pic_board_tests.proofs.one_tile.run.Goals as goal

pub work_one-requires : goal.work_one-requires
work_one-requires c =
    can_work c.in_ok-yard.yard _ c.in-Some.seat
    (last_new c.in_ok-yard.yard c.in_ok-yard.seats.items c.pop.new.self.items c.in-Some.seat c.in_ok-yard.ensures.new c.in-Some.ensures.items)

pub close-tiles-requires-clause-all : goal.close-tiles-requires-clause-all
close-tiles-requires-clause-all c =
    let yard = c.in_ok-yard.yard in
    let seats = c.in_ok-yard.seats.items in
    let left = c.pop.new.self.items in
    let new = last_new yard seats left c.in-Some.seat c.in_ok-yard.ensures.new c.in-Some.ensures.items in
    let none = fewer 0 seats left c.in-Some.seat c.in_ok-yard.ensures.count c.in-Some.ensures.items in
    all_one _ (view_of c.work_one.new.seat) (ap (λ (o : Opening). o.seats) c.in_ok-yard.ensures.opening)
    (number_is yard _ 0 c.in-Some.seat c.work_one.new.seat new c.in-Some-work_one.ensures none)
