use Rattle.pic_deck_laws.proofs.SettingsLaws.{settings_are_spelled}
use Rattle.pic_deck_laws.proofs.settings.settings_are_spelled.Goals as goal

pub returns : goal.returns
returns c = settings_are_spelled
