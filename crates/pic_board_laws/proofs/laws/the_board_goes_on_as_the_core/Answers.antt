use Rattle.pic_board_laws.proofs.StepLaws.{goes_on}
use Rattle.pic_board_laws.proofs.laws.the_board_goes_on_as_the_core.Goals as goal

pub returns : goal.returns
returns c = goes_on
