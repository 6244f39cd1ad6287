use Rattle.pic_deck_laws.proofs.ScaleLaws.{scales_are_spelled}
use Rattle.pic_deck_laws.proofs.settings.scales_are_spelled.Goals as goal

pub returns : goal.returns
returns c = scales_are_spelled
