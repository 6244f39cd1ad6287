use Rattle.std.proofs.Common.{refl}
use Rattle.pic_settings.specs.Keys.{run}
use Rattle.pic_walk.proofs.WalkLaws.{goes_on, exits}
use Rattle.pic_settings.proofs.run.read_run.Goals as goal

pub returns-in_err-table-clause-walks : goal.returns-in_err-table-clause-walks
unfolding run
returns-in_err-table-clause-walks c =
    exits _ _ c.from_residual.ensures.1 c.in_err-table.ensures

pub returns-in_err-steps-clause-walks : goal.returns-in_err-steps-clause-walks
unfolding run
returns-in_err-steps-clause-walks c =
    goes_on _ _ _ c.in_ok-table.ensures.answer (exits _ _ c.from_residual-in_err-steps.ensures.1 (rw c.new.ensures at c.in_err-steps.ensures.walks))

pub returns-in_err-every-clause-walks : goal.returns-in_err-every-clause-walks
unfolding run
returns-in_err-every-clause-walks c =
    goes_on _ _ _ c.in_ok-table.ensures.answer (goes_on _ _ _ (rw c.new.ensures at c.in_ok-steps.ensures.walks.answer)
    (exits _ _ c.from_residual-in_err-every.ensures.1 (rw c.new-2.ensures at c.in_err-every.ensures.walks)))

pub returns-in_err-filter-clause-walks : goal.returns-in_err-filter-clause-walks
unfolding run
returns-in_err-filter-clause-walks c =
    goes_on _ _ _ c.in_ok-table.ensures.answer (goes_on _ _ _ (rw c.new.ensures at c.in_ok-steps.ensures.walks.answer)
    (goes_on _ _ _ (rw c.new-2.ensures at c.in_ok-every.ensures.walks.answer)
    (exits _ _ c.from_residual-in_err-filter.ensures.1 c.in_err-filter.ensures.walks)))

pub returns-clause-walks : goal.returns-clause-walks
unfolding run
returns-clause-walks c =
    goes_on _ _ _ c.in_ok-table.ensures.answer (goes_on _ _ _ (rw c.new.ensures at c.in_ok-steps.ensures.walks.answer)
    (goes_on _ _ _ (rw c.new-2.ensures at c.in_ok-every.ensures.walks.answer)
    (goes_on _ _ _ c.in_ok-filter.ensures.walks.answer (record { answer = refl }))))
