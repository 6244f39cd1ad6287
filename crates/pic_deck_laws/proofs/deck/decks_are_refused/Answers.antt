use Rattle.pic_deck_laws.proofs.DeckReadLaws.{decks_are_refused}
use Rattle.pic_deck_laws.proofs.deck.decks_are_refused.Goals as goal

pub returns : goal.returns
returns c = decks_are_refused
