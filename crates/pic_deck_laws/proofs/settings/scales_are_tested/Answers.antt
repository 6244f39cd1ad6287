use Rattle.pic_deck_laws.proofs.ScaleLaws.{scales_are_tested}
use Rattle.pic_deck_laws.proofs.settings.scales_are_tested.Goals as goal

pub returns : goal.returns
returns c = scales_are_tested
