use Rattle.pic_deck_laws.proofs.SpeciesLaws.{species_are_spelled}
use Rattle.pic_deck_laws.proofs.contents.species_are_spelled.Goals as goal

pub returns : goal.returns
returns c = species_are_spelled
