-- A deck whose document has no key `field` says no E.
use Rattle.std.specs.Prelude.{◌≡◌, ℕ, List, codes, Some, None, Ok}
use Rattle.toml.specs.Data.{Members, get_member}
use Rattle.pic_deck.specs.Deck.{DeckView}
use Rattle.pic_deck.specs.Reading.{document, walk}
use Rattle.pic_displace.specs.Couples.{HasNoE}

-- the deck that some bytes are has no E where their table has no such key
abbrev pub NoFieldIsNoE : Type 0
NoFieldIsNoE =
    (bytes : List ℕ) (ms : Members) (d : DeckView)
    → document bytes ≡ Some ms
    → get_member (codes "field") ms ≡ None
    → walk bytes ≡ Ok d
    → HasNoE d
