use Rattle.std.proofs.Common.{◌≡◌, List, length, sym, ◌∙◌, ap, subst, arith}
use Rattle.atomic_table.specs.declared.shared.Seat.{Seat}
use Rattle.pic_yard.specs.declared.opening.Opening.{Opening}
use Rattle.pic_yard.specs.declared.view.View.{View}
use Rattle.pic_yard.specs.Contents.{Slot}
use Rattle.pic_yard.specs.Ended.{KeepTheBound}
use Rattle.pic_yard.specs.Yards.{opening_of}
use Rattle.pic_crew.specs.Teams.{AreDone}
use Rattle.pic_crew.proofs.GatherLaws.{whole_list}
use Rattle.pic_crew.proofs.team.on_board.Goals as goal

pub join_all-seat-requires-clause-done : goal.join_all-seat-requires-clause-done
join_all-seat-requires-clause-done g c =
    let seats = c.in_ok-yard.seats in
    let was = ap (λ (ss : List (Seat Slot View)). length ss) c.as_mut_slice.ensures.value in
    let whole = whole_list seats.len c.work_all.new.seats seats.items seats.ok.0 (c.work_all.ensures.count ∙ was) in
    subst (λ (ss : List (Seat Slot View)). AreDone c.in_ok-yard.yard ss) (sym whole) c.work_all.ensures.done

pub close-requires-clause-all : goal.close-requires-clause-all
close-requires-clause-all g c x below =
    let seats = c.in_ok-yard.seats in
    let was = ap (λ (ss : List (Seat Slot View)). length ss) c.as_mut_slice.ensures.value in
    let whole = whole_list seats.len c.work_all.new.seats seats.items seats.ok.0 (c.work_all.ensures.count ∙ was) in
    let opening = c.in_ok-yard.ensures.opening in
    let workers : (opening_of c.in_ok-yard.yard).seats ≡ c.count-workers.result = ap (λ (o : Opening). o.seats) opening in
    let long = ap (λ (ss : List (Seat Slot View)). length ss) whole ∙ c.work_all.ensures.count ∙ was ∙ c.in_ok-yard.ensures.count in
    c.join_all-seat.ensures.all x (omega (arith, below, workers, long))

pub returns-clause-bound : goal.returns-clause-bound
returns-clause-bound g c =
    subst (λ (o : Opening). KeepTheBound o c.close.result.1.items) c.in_ok-yard.ensures.opening c.close.ensures.bound
