use Rattle.pic_board_laws.proofs.EndsLaws.{slots_alone}
use Rattle.pic_board_laws.proofs.laws.slots_are_no_events.Goals as goal

pub returns : goal.returns
returns c = slots_alone
