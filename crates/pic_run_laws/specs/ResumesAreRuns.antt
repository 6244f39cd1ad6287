-- A run in parts is the run in one: what `resume` makes of the dump of a run is the run with more steps.
use Rattle.std.specs.Prelude.{◌≡◌, ◌≤◌, ℕ, List, Some, Ok}
use Rattle.pic_num.specs.Limits.{most_steps}
use Rattle.pic_num.specs.Space.{triple}
use Rattle.pic_grid.specs.Tiles.{AreTiles}
use Rattle.pic_deck.specs.Deck.{DeckView}
use Rattle.pic_line.specs.declared.asked.Command.TheVariants.{Run, Resume}
use Rattle.pic_line.specs.CommandLine.{command_of}
use Rattle.pic_resume.specs.Carry.{carry_of}
use Rattle.pic_report.specs.Reading.{Given, Held}
use Rattle.pic_report.specs.Outcome.{Outcome, out_text}
use Rattle.pic_open.specs.Stages.{accepted, tested}
use Rattle.pic_run.specs.DeckOutcome.{run_outcome}
use Rattle.pic_run.specs.Commands.{outcome}
use Rattle.pic_on_dump.specs.Resume.{HasRun, resume_of}
use Rattle.pic_run_laws.specs.KeptDecks.{IsKeptDeck}

-- the deck with so many steps, and all else as it is
abbrev pub deck_with_steps : ℕ → DeckView → DeckView
deck_with_steps steps d = record d { steps = steps }

-- the outcome of a dump that an outcome put on out, resumed with so many steps in all, on such tiles
abbrev pub resumed : ℕ → List ℕ → Outcome → Outcome
resumed steps tiles o = resume_of (carry_of steps tiles (out_text o))

-- so many steps in all, no fewer than the deck has, and tiles of its cells
pub record CanResume (d : DeckView) (steps : ℕ) (tiles : List ℕ) : Type 0 where
  pub longer : d.steps ≤ steps
  pub most : steps ≤ most_steps
  pub tiles_fit : AreTiles d.cells (triple tiles)

-- the run of a deck, resumed, is the run of the deck with all these steps, on both sinks and in its answer,
-- also where either stops
abbrev pub ResumesAreRuns : Type 0
ResumesAreRuns =
    (d : DeckView) (steps : ℕ) (tiles : List ℕ) → IsKeptDeck d → tested d ≡ Ok d → CanResume d steps tiles
    → resumed steps tiles (run_outcome d) ≡ run_outcome (deck_with_steps steps d)

-- and what is resumed twice is what is resumed once
abbrev pub ResumesJoin : Type 0
ResumesJoin =
    (d : DeckView) (first second : ℕ) (tiles tiles' : List ℕ) → IsKeptDeck d → tested d ≡ Ok d
    → CanResume d first tiles → CanResume (deck_with_steps first d) second tiles'
    → resumed second tiles' (resumed first tiles (run_outcome d)) ≡ resumed second tiles' (run_outcome d)

-- So it is of the commands: `run` ended so over a source that gave a deck, and another source gives the
-- same deck with all these steps. Then `resume`, over a source that holds what `run` put on out, has the
-- outcome that `run` has over the other source.
abbrev pub ResumesAreFoundRuns : Type 0
ResumesAreFoundRuns =
    (run_words resume_words whole_words : List (List ℕ)) (workers workers' workers'' steps : ℕ)
    (tiles : List ℕ) (given given' : Given) (d : DeckView)
    → command_of run_words ≡ Some (Run workers)
    → command_of resume_words ≡ Some (Resume steps workers' tiles)
    → command_of whole_words ≡ Some (Run workers'')
    → accepted given ≡ Ok d → accepted given' ≡ Ok (deck_with_steps steps d)
    → IsKeptDeck d → CanResume d steps tiles
    → HasRun (outcome run_words given).answer
    → outcome resume_words (Held (out_text (outcome run_words given))) ≡ outcome whole_words given'
