-- What `run` writes of a deck is read back as the states that it was.
use Rattle.std.specs.Prelude.{◌≡◌, ◌+◌, map, Ok}
use Rattle.pic_deck.specs.Deck.{DeckView}
use Rattle.pic_dump.specs.DumpRead.{read_dump}
use Rattle.pic_states.specs.Frames.{due_states, end_of_run}
use Rattle.pic_report.specs.Outcome.{out_text}
use Rattle.pic_open.specs.Stages.{tested}
use Rattle.pic_run.specs.DeckOutcome.{run_outcome}
use Rattle.pic_open.specs.Starting.{first_state}
use Rattle.pic_run.specs.RunHeader.{header_of}
use Rattle.pic_states.specs.FrameStates.{frame_in}
use Rattle.pic_run_laws.specs.KeptDecks.{IsKeptDeck}

-- the dump of a deck's run is read as its header, the frames of its due states, and its end
abbrev pub RunsAreRead : Type 0
RunsAreRead =
    (d : DeckView) → IsKeptDeck d → tested d ≡ Ok d
    → read_dump (out_text (run_outcome d)) ≡ Ok (record {
      header = header_of d;
      frames = map frame_in (due_states d.steps d.every (first_state d) 0 (d.steps + 1));
      end = Ok (end_of_run d.steps (first_state d));
    })
