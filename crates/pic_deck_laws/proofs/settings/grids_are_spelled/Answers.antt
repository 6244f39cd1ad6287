use Rattle.pic_deck_laws.proofs.GridLaws.{grids_are_spelled}
use Rattle.pic_deck_laws.proofs.settings.grids_are_spelled.Goals as goal

pub returns : goal.returns
returns c = grids_are_spelled
