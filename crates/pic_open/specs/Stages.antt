-- The stages of a deck, from what its source gave: it is read and walked, its particles are loaded and its
-- species displaced, and Gauss's law is tested.
use Rattle.std.specs.Prelude.{ℕ, List, take, Option, Some, None, Result, Ok, Err}
use Rattle.pic_deck.specs.declared.refusal.Refusal.{Refusal}
use Rattle.pic_deck.specs.Refusal.{ReadDeck}
use Rattle.pic_charge.specs.declared.breaks.Break.{Break}
use Rattle.pic_deck.specs.Deck.{DeckView}
use Rattle.pic_deck.specs.Reading.{walk}
use Rattle.pic_load.specs.Loading.{loaded}
use Rattle.pic_displace.specs.Displace.{displaced_allowed}
use Rattle.pic_open.specs.DeckEnd.{Unread, Unfit, Unmet, Staged, ◌>>=◌}
use Rattle.pic_open.specs.DeckReading.{deck_limit}
use Rattle.pic_report.specs.Reading.{Given, Held, Failed, FailedBehind}
use Rattle.pic_open.specs.Starting.{first_state, state_break}

-- The stages of a deck. The bytes that are taken of what the source held
abbrev pub taken : Given → Staged (List ℕ)
taken (Held held) = Ok (take deck_limit held)
taken (Failed front) = Err Unread
taken (FailedBehind held whole) = Err Unread

-- the deck, or the first refusal that its walk meets
abbrev pub unless_refused : ReadDeck → Staged DeckView
unless_refused (Ok d) = Ok d
unless_refused (Err refusal) = Err (Unfit refusal)

abbrev pub accepted : Given → Staged DeckView
accepted given = taken given >>= (λ text. unless_refused (walk text))

-- a deck that meets Gauss's law, or the least node where it fails
abbrev pub unless_gauss_fails : DeckView → Option Break → Staged DeckView
unless_gauss_fails d None = Ok d
unless_gauss_fails d (Some b) = Err (Unmet b)

abbrev pub gauss_tested : DeckView → Staged DeckView
gauss_tested d = unless_gauss_fails d (state_break (first_state d))

-- a deck whose E isn't too strong once its species are displaced, or the refusal of that E
abbrev pub unless_too_strong : DeckView → Result (Unit {0}) Refusal → Staged DeckView
unless_too_strong d (Ok _) = Ok d
unless_too_strong d (Err refusal) = Err (Unfit refusal)

abbrev pub displaced : DeckView → Staged DeckView
displaced d = unless_too_strong d (displaced_allowed d (loaded d))

abbrev pub tested : DeckView → Staged DeckView
tested d = displaced d >>= gauss_tested

abbrev pub opened : Given → Staged DeckView
opened given = accepted given >>= tested
