use Rattle.pic_board_laws.proofs.HistoryLaws.{drawn_apart}
use Rattle.pic_board_laws.proofs.laws.no_two_seats_claim_one_tile.Goals as goal

pub returns : goal.returns
returns c = drawn_apart
