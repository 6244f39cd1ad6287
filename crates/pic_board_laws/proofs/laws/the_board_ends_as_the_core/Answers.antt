use Rattle.pic_board_laws.proofs.EndsLaws.{ends}
use Rattle.pic_board_laws.proofs.laws.the_board_ends_as_the_core.Goals as goal

pub returns : goal.returns
returns c = ends
