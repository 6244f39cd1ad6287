use Rattle.std.proofs.Common.{refl, arith}
use Rattle.pic_walk.proofs.WalkLaws.{exits, goes_on}
use Rattle.pic_settings.specs.Keys.{steps_fit}
use Rattle.pic_settings.proofs.GridLaws.{passed}
use Rattle.pic_settings.proofs.run.check_steps.Goals as goal

pub returns-in_err-check_within-clause-walks : goal.returns-in_err-check_within-clause-walks
unfolding steps_fit
returns-in_err-check_within-clause-walks c =
    let value = passed c.args.steps c.from.result (omega arith) c.from.ensures in
    exits _ _ c.from_residual.ensures.1 (rw (c.from_to-limits.ensures, c.new-address.ensures.path, value) at c.in_err-check_within.ensures.walks)

pub returns-clause-walks : goal.returns-clause-walks
unfolding steps_fit
returns-clause-walks c =
    let value = passed c.args.steps c.from.result (omega arith) c.from.ensures in
    goes_on _ _ _ (rw (c.from_to-limits.ensures, c.new-address.ensures.path, value) at c.in_ok-check_within.ensures.walks.answer)
    (record { answer = refl })
