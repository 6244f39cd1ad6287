use Rattle.pic_board_laws.proofs.HistoryLaws.{drawn_once}
use Rattle.pic_board_laws.proofs.laws.each_number_is_drawn_once.Goals as goal

pub returns : goal.returns
returns c = drawn_once
