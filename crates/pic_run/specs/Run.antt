-- The command `run`: the run of the deck that the source gives, as a dump.
use Rattle.std.specs.Prelude.{ℕ}
use Rattle.pic_run.specs.DeckOutcome.{run_outcome}
use Rattle.pic_report.specs.Leaves.{LeavesWhole}
use Rattle.pic_report.specs.Manner.{Manner}
use Rattle.pic_run.specs.OnDeck.{HasDeck, RunMeans, on_given_deck}

-- on so many workers
abbrev pub running : ℕ → Manner
running workers = on_given_deck run_outcome (LeavesWhole workers) (λ c. RunMeans (HasDeck c))
