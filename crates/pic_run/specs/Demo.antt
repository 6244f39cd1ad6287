-- The command `demo`: the run of the deck that a number makes, as lines alone.
use Rattle.std.specs.Prelude.{◌≡◌, ◌≢◌, ℕ, Ok}
use Rattle.pic_deck.specs.Deck.{DeckView}
use Rattle.pic_demo.specs.Demo.{demo_deck}
use Rattle.pic_step.specs.Sound.{IsSound}
use Rattle.pic_report.specs.declared.ended.Ended.{Ended}
use Rattle.pic_report.specs.declared.ended.Ended.TheVariants.{Gauss, NoMemory}
use Rattle.pic_open.specs.Starting.{first_state}
use Rattle.pic_run.specs.DeckOutcome.{on_deck, demo_outcome, demonstrated}
use Rattle.pic_report.specs.Leaves.{LeavesWhole}
use Rattle.pic_report.specs.Manner.{Call, Manner}
use Rattle.pic_run.specs.OnDeck.{BreaksGauss, RunMeans}

-- unless memory was wanting, a demonstration that meets Gauss's law begins in a sound state
abbrev pub BeginsSound : ℕ → Ended → Type 0
BeginsSound seed ended =
    ended ≢ NoMemory → (d : DeckView) → demonstrated seed ≡ Ok d → IsSound (first_state d)

-- the deck of the seed, for which nothing was taken
pub record IsDeckOf (seed : ℕ) (c : Call) (d : DeckView) : Type 0 where
  pub deck : d ≡ demo_deck seed
  pub same : c.source_now ≡ c.source

abbrev pub DemoMeans : ℕ → Call → Ended → Type 0
DemoMeans seed c (Gauss b) = BreaksGauss (IsDeckOf seed c) b
DemoMeans seed c answer = RunMeans (IsDeckOf seed c) answer

-- of this seed, on so many workers
abbrev pub demonstrating : ℕ → ℕ → Manner
demonstrating seed workers = record {
  outcome = λ given. on_deck demo_outcome (demonstrated seed);
  leaves = LeavesWhole workers;
  takes = λ source source' front. source' ≡ source;
  reads = λ source source' given ended. BeginsSound seed ended;
  means = DemoMeans seed;
}
