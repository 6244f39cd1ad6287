use Rattle.std.proofs.Common.{ap, sym, ◌∙◌, rules, Ok}
use Rattle.std.proofs.lemmas.Int.{to_z-of_z}
use mir.Syntax.{w64}
use mir.Val.{SFits}
use Rattle.pic_walk.specs.Walk.{limited, number}
use Rattle.pic_walk.proofs.LimitLaws.{widened}
use Rattle.pic_walk.proofs.WalkLaws.{goes_on, exits_as, refuses, there, lacks, then_err}
use Rattle.pic_walk.proofs.numbers.read_number.Goals as goal

pub returns-in_err-check_within-in-Some-clause-walks : goal.returns-in_err-check_within-in-Some-clause-walks
unfolding limited number
returns-in_err-check_within-in-Some-clause-walks c =
    let fits : SFits w64 c.in-Some.number = search rules in
    let same = widened c.in-Some.number c.from.result fits c.from.ensures in
    goes_on _ _ _ (there _ _ _ (sym c.in-Some.ensures)) (exits_as _ c.from_residual.ensures.1 (rw same at c.in_err-check_within-in-Some.ensures.walks))

pub returns-in_ok-check_within-in-Some-clause-walks : goal.returns-in_ok-check_within-in-Some-clause-walks
unfolding limited number
returns-in_ok-check_within-in-Some-clause-walks c =
    let fits : SFits w64 c.in-Some.number = search rules in
    let same = widened c.in-Some.number c.from.result fits c.from.ensures in
    let within_is = rw same at c.in_ok-check_within-in-Some.ensures.walks.answer in
    goes_on _ _ _ (there _ _ _ (sym c.in-Some.ensures)) (record { answer = within_is ∙ ap Ok (sym (to_z-of_z w64 _ fits)) })

pub returns-in-None-clause-walks : goal.returns-in-None-clause-walks
unfolding limited number
returns-in-None-clause-walks c = refuses _ _ _ c.kind_fault.ensures (then_err _ _ _ (lacks _ _ (sym c.in-None.ensures)))
