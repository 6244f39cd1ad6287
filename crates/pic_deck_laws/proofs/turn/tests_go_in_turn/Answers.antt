use Rattle.pic_deck_laws.proofs.TestLaws.{tests_in_turn}
use Rattle.pic_deck_laws.proofs.turn.tests_go_in_turn.Goals as goal

pub returns : goal.returns
returns g c = tests_in_turn _ _
