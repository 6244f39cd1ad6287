-- The frames of a dump give the states that they were.
use Rattle.std.specs.Prelude.{◌≡◌, ℕ, Ok}
use Rattle.pic_deck.specs.Deck.{DeckView}
use Rattle.pic_step.specs.SerialStep.{World}
use Rattle.pic_step.specs.SerialRun.{after}
use Rattle.pic_states.specs.FrameStates.{frame_in, world_in}
use Rattle.pic_open.specs.Stages.{tested}
use Rattle.pic_open.specs.Starting.{first_state}
use Rattle.pic_run.specs.RunHeader.{header_of}
use Rattle.pic_run_laws.specs.KeptDecks.{IsKeptDeck}

-- each state of a deck's run is that of its frame
abbrev pub FramesGiveStates : Type 0
FramesGiveStates =
    (d : DeckView) (n : ℕ) (v : World) → IsKeptDeck d → tested d ≡ Ok d
    → after (first_state d) n ≡ Ok v
    → world_in (header_of d) (frame_in v) ≡ v
