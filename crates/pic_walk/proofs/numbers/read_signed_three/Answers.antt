use Rattle.std.proofs.Common.{◌≡◌, length, ap, sym, ◌∙◌, Ok, rules}
use Rattle.pic_walk.proofs.FillLaws.{kept_three, kept_bounds}
use Rattle.pic_walk.proofs.WalkLaws.{exits_as}
use Rattle.pic_walk.proofs.numbers.read_signed_three.Goals as goal

pub returns-in_err-numbers-clause-walks : goal.returns-in_err-numbers-clause-walks
returns-in_err-numbers-clause-walks c = exits_as _ c.from_residual.ensures.1 c.in_err-numbers.ensures.walks

pub returns-clause-walks : goal.returns-clause-walks
returns-clause-walks c =
    let size : length c.in_ok-numbers.numbers ≡ 3 = search rules in
    let same = kept_three c.args.limits c.in_ok-numbers.numbers size c.requires.fits c.in_ok-numbers.ensures.bounds in
    record { answer = c.in_ok-numbers.ensures.walks.answer ∙ ap Ok (sym same) }

pub returns-clause-bounds : goal.returns-clause-bounds
returns-clause-bounds c =
    let size : length c.in_ok-numbers.numbers ≡ 3 = search rules in
    kept_bounds c.args.limits c.in_ok-numbers.numbers size c.requires.fits c.in_ok-numbers.ensures.bounds
