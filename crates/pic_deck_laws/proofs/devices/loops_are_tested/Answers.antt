use Rattle.pic_deck_laws.proofs.DriveLaws.{loops_are_tested}
use Rattle.pic_deck_laws.proofs.devices.loops_are_tested.Goals as goal

pub returns : goal.returns
returns c = loops_are_tested
