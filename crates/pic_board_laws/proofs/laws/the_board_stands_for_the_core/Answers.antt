use Rattle.pic_board_laws.proofs.ReachLaws.{stands_for}
use Rattle.pic_board_laws.proofs.laws.the_board_stands_for_the_core.Goals as goal

pub returns : goal.returns
returns c = stands_for
