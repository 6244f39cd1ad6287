use Rattle.pic_deck_laws.proofs.SpeciesTestLaws.{species_are_tested}
use Rattle.pic_deck_laws.proofs.contents.species_are_tested.Goals as goal

pub returns : goal.returns
returns c = species_are_tested
