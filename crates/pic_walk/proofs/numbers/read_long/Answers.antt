use Rattle.std.proofs.Common.{ap, sym, rules, Ok, unsigned_abs}
use Rattle.std.proofs.lemmas.Int.{to_z-of_z}
use mir.Syntax.{w64}
use mir.Val.{SFits}
use Rattle.pic_walk.specs.Walk.{whole}
use Rattle.pic_walk.proofs.WalkLaws.{goes_on, exits}
use Rattle.pic_walk.proofs.numbers.read_long.Goals as goal

pub returns-in_err-number-clause-walks : goal.returns-in_err-number-clause-walks
unfolding whole
returns-in_err-number-clause-walks c = exits _ _ c.from_residual.ensures.1 c.in_err-number.ensures.walks

pub returns-clause-walks : goal.returns-clause-walks
unfolding whole
returns-clause-walks c =
    let fits : SFits w64 c.in_ok-number.number = search rules in
    goes_on _ _ _ c.in_ok-number.ensures.walks.answer (record { answer = ap (λ z. Ok (unsigned_abs z)) (sym (to_z-of_z w64 _ fits)) })
