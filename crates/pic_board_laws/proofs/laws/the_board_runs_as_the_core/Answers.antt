use Rattle.pic_board_laws.proofs.HistoryLaws.{runs}
use Rattle.pic_board_laws.proofs.laws.the_board_runs_as_the_core.Goals as goal

pub returns : goal.returns
returns c = runs
