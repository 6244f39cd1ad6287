use Rattle.pic_step.proofs.AfterLaws.{after_plus, after_stays, step_after}
use Rattle.pic_step.proofs.laws.law_of_the_run.Goals as goal

pub returns-clause-add : goal.returns-clause-add
returns-clause-add c = after_plus

pub returns-clause-counted : goal.returns-clause-counted
returns-clause-counted c = step_after

pub returns-clause-stay : goal.returns-clause-stay
returns-clause-stay c = after_stays
