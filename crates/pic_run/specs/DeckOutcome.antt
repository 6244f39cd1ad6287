-- The outcomes of the commands that have a deck.
use Rattle.std.specs.Prelude.{ℕ, [], length, Ok, Err}
use Rattle.pic_deck.specs.Deck.{DeckView}
use Rattle.pic_demo.specs.Demo.{demo_deck}
use Rattle.pic_load.specs.Loading.{loaded}
use Rattle.pic_report.specs.declared.ended.Ended.TheVariants.{Checked}
use Rattle.pic_states.specs.declared.output.Output.TheVariants.{Lines, Probe}
use Rattle.pic_open.specs.DeckEnd.{Staged, ended_at}
use Rattle.pic_report.specs.Lines.{check_line}
use Rattle.pic_open.specs.Starting.{first_state}
use Rattle.pic_run.specs.RunHeader.{header_of}
use Rattle.pic_report.specs.Outcome.{Outcome, early_outcome}
use Rattle.pic_open.specs.Stages.{tested}
use Rattle.pic_states.specs.StatesOutcome.{dump_outcome, shown_outcome}

-- the demonstration of a seed: its deck is written down, so that nothing is read
unfoldable pub demonstrated : ℕ → Staged DeckView
demonstrated seed = tested (demo_deck seed)

-- what a command makes of its deck, or why that isn't run
abbrev pub on_deck : (DeckView → Outcome) → Staged DeckView → Outcome
on_deck performed (Ok d) = performed d
on_deck performed (Err end) = early_outcome (ended_at end)

-- a deck that can be run: its number of particles, on out
abbrev pub check_outcome : DeckView → Outcome
check_outcome d = record {
  answer = Checked (length (loaded d));
  head = [];
  frames = [];
  last = record { out = check_line (length (loaded d)); line = [] };
}

abbrev pub run_outcome : DeckView → Outcome
run_outcome d = dump_outcome (header_of d) (first_state d)

-- the run of a deck as lines alone, on out
abbrev pub demo_outcome : DeckView → Outcome
demo_outcome d = shown_outcome Lines d.steps d.every (first_state d)

-- the run of a deck as what its probes see, on out: a line of each state
abbrev pub probe_outcome : DeckView → Outcome
probe_outcome d = shown_outcome (Probe d.probes) d.steps 1 (first_state d)
