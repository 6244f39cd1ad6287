use Rattle.pic_deck.proofs.ReadingLaws.{stops, reads}
use Rattle.pic_deck.proofs.checks.check_steps.Goals as goal

pub returns-in_err-check_steps-clause-walks : goal.returns-in_err-check_steps-clause-walks
returns-in_err-check_steps-clause-walks c = stops _ _ c.from_residual.ensures.1 c.in_err-check_steps.ensures.walks

pub returns-clause-walks : goal.returns-clause-walks
returns-clause-walks c = reads _ _ c.in_ok-check_steps.ensures.walks.answer
