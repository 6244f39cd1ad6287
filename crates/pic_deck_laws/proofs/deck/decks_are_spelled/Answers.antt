use Rattle.pic_deck_laws.proofs.DeckLaws.{decks_are_spelled}
use Rattle.pic_deck_laws.proofs.deck.decks_are_spelled.Goals as goal

pub returns : goal.returns
returns c = decks_are_spelled
