use Rattle.pic_deck_laws.proofs.DeckTestLaws.{decks_are_tested}
use Rattle.pic_deck_laws.proofs.deck.decks_are_tested.Goals as goal

pub returns : goal.returns
returns c = decks_are_tested
