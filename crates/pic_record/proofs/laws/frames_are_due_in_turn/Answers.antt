use Rattle.pic_record.proofs.DueLaws.{due_in_turn}
use Rattle.pic_record.proofs.laws.frames_are_due_in_turn.Goals as goal

pub returns : goal.returns
returns c = due_in_turn
