use Rattle.pic_board_laws.proofs.KeepingLaws.{history_kept}
use Rattle.pic_board_laws.proofs.laws.each_state_ends_a_history.Goals as goal

pub returns : goal.returns
returns c = history_kept
