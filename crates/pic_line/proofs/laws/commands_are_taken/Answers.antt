use Rattle.pic_line.proofs.TakenLaws.{commands_taken}
use Rattle.pic_line.proofs.laws.commands_are_taken.Goals as goal

pub returns : goal.returns
returns c = commands_taken
