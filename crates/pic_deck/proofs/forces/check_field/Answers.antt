use Rattle.std.proofs.lemmas.Result.{on_ok_weaker}
use Rattle.pic_deck.proofs.forces.check_field.Goals as goal

pub returns-clause-walks : goal.returns-clause-walks
returns-clause-walks c = rw c.in_ok-found.ensures.value at c.check_strong.ensures.walks

pub returns-clause-mild : goal.returns-clause-mild
returns-clause-mild c = on_ok_weaker _ c.in_ok-found.ensures.mild c.check_strong.ensures.none
