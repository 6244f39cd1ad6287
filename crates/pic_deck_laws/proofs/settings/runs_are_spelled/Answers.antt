use Rattle.pic_deck_laws.proofs.RunLaws.{runs_are_spelled}
use Rattle.pic_deck_laws.proofs.settings.runs_are_spelled.Goals as goal

pub returns : goal.returns
returns c = runs_are_spelled
