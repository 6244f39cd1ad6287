use Rattle.pic_deck.proofs.ReadingLaws.{stops, reads}
use Rattle.pic_deck.proofs.checks.check_tiles.Goals as goal

pub returns-in_err-check_tiles-clause-walks : goal.returns-in_err-check_tiles-clause-walks
returns-in_err-check_tiles-clause-walks c =
    stops _ _ c.from_residual.ensures.1 (rw c.numbers.ensures.value at c.in_err-check_tiles.ensures.walks)

pub returns-clause-walks : goal.returns-clause-walks
returns-clause-walks c = reads _ _ (rw c.numbers.ensures.value at c.in_ok-check_tiles.ensures.walks.answer)
