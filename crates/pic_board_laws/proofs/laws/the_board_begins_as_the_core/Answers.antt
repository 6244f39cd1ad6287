use Rattle.pic_board_laws.proofs.EndsLaws.{begins}
use Rattle.pic_board_laws.proofs.laws.the_board_begins_as_the_core.Goals as goal

pub returns : goal.returns
returns c = begins
