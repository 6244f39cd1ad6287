-- The command `probe`: the run of the deck that the source gives, as what its probes see.
use Rattle.std.specs.Prelude.{ℕ}
use Rattle.pic_run.specs.DeckOutcome.{probe_outcome}
use Rattle.pic_report.specs.Leaves.{LeavesWhole}
use Rattle.pic_report.specs.Manner.{Manner}
use Rattle.pic_run.specs.OnDeck.{HasDeck, RunMeans, on_given_deck}

-- on so many workers
abbrev pub probing : ℕ → Manner
probing workers = on_given_deck probe_outcome (LeavesWhole workers) (λ c. RunMeans (HasDeck c))
