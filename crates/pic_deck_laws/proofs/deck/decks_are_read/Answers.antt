use Rattle.pic_deck_laws.proofs.DeckReadLaws.{decks_are_read}
use Rattle.pic_deck_laws.proofs.deck.decks_are_read.Goals as goal

pub returns : goal.returns
returns c = decks_are_read
