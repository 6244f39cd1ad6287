use Rattle.std.proofs.Common.{◌≡◌, length, arith}
use Rattle.pic_crew.proofs.GatherLaws.{gathering_more}
use Rattle.pic_crew.proofs.team.join_all.Goals as goal

pub loop-other-preserved : goal.loop-other-preserved
loop-other-preserved c =
    gathering_more c.args.yard.now (length c.args.seats.items) c.loop-other.seats.items c.pop-in-loop-other.new.self.items c.in-Some-pop.other c.loop-other.seat
    c.join.new.seat c.loop-other.invariant c.in-Some-pop.ensures.items c.join.ensures.serves c.join.ensures.view

pub returns-clause-all : goal.returns-clause-all
returns-clause-all c x below =
    let none : c.loop-other.seats.len ≡ 0 = c.in_default-pop.ensures.cases.0 in
    let long : c.loop-other.seats.len ≡ length c.loop-other.seats.items = c.loop-other.seats.ok.0 in
    c.loop-other.invariant.numbers x (omega (arith, none, long)) below
