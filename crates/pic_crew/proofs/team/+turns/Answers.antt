use Rattle.std.proofs.Common.{rules}
use Rattle.pic_crew.proofs.TeamLaws.{first_can, others_can}
use Rattle.pic_crew.proofs.team.+turns.Goals as goal

pub work_through-requires-clause-serves : goal.work_through-requires-clause-serves
work_through-requires-clause-serves g t c =
    (first_can c.args.crew.now.yard.now c.args.seats.now c.in-Some.others.now c.in-Some.seat.now c.in-Some.ensures.cases.0 c.requires.can).serves

pub work_through-requires-clause-fresh : goal.work_through-requires-clause-fresh
work_through-requires-clause-fresh g t c =
    (first_can c.args.crew.now.yard.now c.args.seats.now c.in-Some.others.now c.in-Some.seat.now c.in-Some.ensures.cases.0 c.requires.can).fresh

pub work_through-requires-clause-idle : goal.work_through-requires-clause-idle
work_through-requires-clause-idle g t c =
    (first_can c.args.crew.now.yard.now c.args.seats.now c.in-Some.others.now c.in-Some.seat.now c.in-Some.ensures.cases.0 c.requires.can).idle

pub work_in_turn-requires : goal.work_in_turn-requires
work_in_turn-requires g t c κs within =
    let rest = others_can c.args.crew.now.yard.now c.args.seats.now c.in-Some.others.now c.in-Some.seat.now c.in-Some.ensures.cases.0 c.requires.can in
    search (rules, rest, within)
