use Rattle.pic_deck_laws.proofs.FieldLaws.{fields_are_spelled}
use Rattle.pic_deck_laws.proofs.contents.fields_are_spelled.Goals as goal

pub returns : goal.returns
returns c = fields_are_spelled
