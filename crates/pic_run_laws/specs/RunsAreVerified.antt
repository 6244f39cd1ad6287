-- What `run` writes of a deck `verify` finds good.
use Rattle.std.specs.Prelude.{◌≡◌, ℕ, List, length, Some, Ok}
use Rattle.pic_deck.specs.Deck.{DeckView}
use Rattle.pic_line.specs.declared.asked.Command.TheVariants.{Run, Verify}
use Rattle.pic_line.specs.CommandLine.{command_of}
use Rattle.pic_report.specs.declared.ended.Ended.TheVariants.{Verified}
use Rattle.pic_report.specs.Reading.{Given, Held}
use Rattle.pic_report.specs.Outcome.{out_text}
use Rattle.pic_open.specs.Stages.{accepted, tested}
use Rattle.pic_run.specs.DeckOutcome.{run_outcome}
use Rattle.pic_run.specs.Commands.{outcome}
use Rattle.pic_on_dump.specs.Resume.{HasRun}
use Rattle.pic_verify.specs.Verified.{verified}
use Rattle.pic_run_laws.specs.KeptDecks.{IsKeptDeck}

-- the dump of a deck's run is verified, with the number of its frames
abbrev pub RunsAreVerified : Type 0
RunsAreVerified =
    (d : DeckView) → IsKeptDeck d → tested d ≡ Ok d
    → verified (out_text (run_outcome d)) ≡ Ok (length (run_outcome d).frames)

-- where the command `run` comes to its last step or to a stop, over a source whose deck is one that its
-- type keeps, the command `verify` answers the number of frames over a source that holds what `run` put on
-- out
abbrev pub RunsAreFoundGood : Type 0
RunsAreFoundGood =
    (run_words verify_words : List (List ℕ)) (workers : ℕ) (given : Given)
    → command_of run_words ≡ Some (Run workers)
    → command_of verify_words ≡ Some Verify
    → ((d : DeckView) → accepted given ≡ Ok d → IsKeptDeck d)
    → HasRun (outcome run_words given).answer
    → (outcome verify_words (Held (out_text (outcome run_words given)))).answer
    ≡ Verified (length (outcome run_words given).frames)
