use Rattle.pic_deck_laws.proofs.DriveLaws.{loops_are_spelled}
use Rattle.pic_deck_laws.proofs.devices.loops_are_spelled.Goals as goal

pub returns : goal.returns
returns c = loops_are_spelled
