use Rattle.pic_deck.specs.Keys.{forces}
use Rattle.pic_walk.proofs.WalkLaws.{goes_on, exits}
use Rattle.pic_deck.proofs.forces.check_forces.Goals as goal

pub returns-in_err-check_field-clause-walks : goal.returns-in_err-check_field-clause-walks
unfolding forces
returns-in_err-check_field-clause-walks c = exits _ _ c.from_residual.ensures.1 (rw c.as_slice-e.ensures at c.in_err-check_field.ensures.walks)

pub returns-clause-walks : goal.returns-clause-walks
unfolding forces
returns-clause-walks c = goes_on _ _ _ (rw c.as_slice-e.ensures at c.in_ok-check_field.ensures.walks.answer)
    (rw c.as_slice-b.ensures at c.check_field-2.ensures.walks)
