use Rattle.std.proofs.Common.{Result, sym, subst}
use Rattle.pic_deck.specs.declared.refusal.Refusal.{Refusal}
use Rattle.pic_deck.specs.Refusal.{ReadsAs}
use Rattle.pic_resume.proofs.HeadLaws.{asked_is, steps_refused}
use Rattle.pic_resume.proofs.carrying.check_asked.Goals as goal

pub returns-in_err-check_steps-clause-walks : goal.returns-in_err-check_steps-clause-walks
returns-in_err-check_steps-clause-walks c =
    steps_refused _ _ _ _ _ c.from_residual.ensures.1 (rw c.steps.ensures.value at c.in_err-check_steps.ensures.walks)

pub returns-clause-walks : goal.returns-clause-walks
returns-clause-walks c =
    let fits = rw c.steps.ensures.value at c.in_ok-check_steps.ensures.walks in
    let tiled = rw c.cells.ensures.value at c.check_tiles.ensures.walks in
    subst (λ (w : Result (Unit {0}) Refusal). ReadsAs w c.check_tiles.result) (sym (asked_is _ _ _ fits.answer)) tiled
