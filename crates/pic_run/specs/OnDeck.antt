-- Commands that have a deck: how they read it, and what their answers mean.
use Rattle.std.specs.Prelude.{◌≡◌, ◌≢◌, ℕ, ◌<◌, List, length, take, Ok, Err, IfSome, IsOk}
use Rattle.pic_io.specs.Told.{Told}
use Rattle.pic_io.specs.Source.{IsAtEnd}
use Rattle.pic_grid.specs.declared.stop.EndMark.TheVariants.{Stopped as EndStopped}
use Rattle.pic_grid.specs.declared.stop.Stop.{Stop}
use Rattle.pic_grid.specs.Differences.{div_e}
use Rattle.pic_grid.specs.Lattice.{value_at}
use Rattle.pic_charge.specs.declared.breaks.Break.{Break}
use Rattle.pic_charge.specs.Charge.{rho_of}
use Rattle.pic_charge.specs.Gauss.{IsLeastBreak}
use Rattle.pic_deck.specs.declared.refusal.Refusal.{Refusal}
use Rattle.pic_deck.specs.Deck.{DeckView}
use Rattle.pic_deck.specs.Refusal.{ReadDeck}
use Rattle.pic_deck.specs.Reading.{walk}
use Rattle.pic_load.specs.Loading.{loaded}
use Rattle.pic_displace.specs.Displace.{displaced_allowed}
use Rattle.pic_step.specs.SerialStep.{World, e_of}
use Rattle.pic_step.specs.SerialRun.{after}
use Rattle.pic_step.specs.Sound.{IsSound}
use Rattle.pic_report.specs.declared.ended.Ended.{Ended}
use Rattle.pic_report.specs.declared.ended.Ended.TheVariants.{Done, Stopped, Refused, Gauss, NoMemory}
use Rattle.pic_open.specs.Starting.{first_state}
use Rattle.pic_states.specs.EachGauss.{EachGauss}
use Rattle.pic_open.specs.DeckReading.{deck_limit, TakesOfDeck}
use Rattle.pic_report.specs.Reading.{Given, Held}
use Rattle.pic_report.specs.Outcome.{Outcome}
use Rattle.pic_open.specs.Stages.{accepted, opened}
use Rattle.pic_run.specs.DeckOutcome.{on_deck}
use Rattle.pic_report.specs.Leaves.{Leaving}
use Rattle.pic_report.specs.Manner.{Call, Manner}

-- how a deck was read: unless memory was wanting, one that is accepted, or refused and not too long, to
-- its end; and one that meets Gauss's law begins in a sound state
pub record ReadsDeck (source' : Told) (given : Given) (ended : Ended) : Type 0 where
  pub end : ended ≢ NoMemory → (d : DeckView) → accepted given ≡ Ok d → IsAtEnd source'
  pub short : ended ≢ NoMemory
      → (held : List ℕ) → given ≡ Held held → length held < deck_limit → IsAtEnd source'
  pub sound : ended ≢ NoMemory → (d : DeckView) → opened given ≡ Ok d → IsSound (first_state d)

-- the source held this deck, where it tells its bytes, and it was read to its end
pub record HasDeck (c : Call) (d : DeckView) : Type 0 where
  pub held : IfSome c.source.bytes (λ held. walk (take deck_limit held) ≡ Ok d)
  pub end : IsAtEnd c.source_now

-- a deck is refused so: by its walk, or by the E of its displaced start
abbrev pub IsRefusedSo : Refusal → ReadDeck → Type 0
IsRefusedSo refusal (Ok d) = displaced_allowed d (loaded d) ≡ Err refusal
IsRefusedSo refusal (Err other) = other ≡ refusal

-- the deck that the source held, where it tells its bytes, is refused so
abbrev pub IsRefused : Call → Refusal → Type 0
IsRefused c refusal = IfSome c.source.bytes (λ held. IsRefusedSo refusal (walk (take deck_limit held)))

-- the least node of a state where the divergence of E and the charge differ
abbrev pub IsLeastBreakOf : World → Break → Type 0
IsLeastBreakOf w b =
    IsLeastBreak w.cells (div_e w.cells (value_at (e_of w)))
    (rho_of w.side w.filter w.cells w.kinds w.particles) b

-- this is the least node where the E of the command's deck and its charge differ
pub record BreaksGauss (Has : DeckView → Type 0) (b : Break) : Type 0 where
  pub deck : DeckView
  pub held : Has deck
  pub least : IsLeastBreakOf (first_state deck) b

-- the deck's serial run reaches its last step, and each of its states meets Gauss's law
pub record IsRunDone (Has : DeckView → Type 0) (steps : ℕ) : Type 0 where
  pub deck : DeckView
  pub held : Has deck
  pub gauss : EachGauss (first_state deck)
  pub last : steps ≡ deck.steps
  pub reached : IsOk (after (first_state deck) deck.steps)

-- the deck's serial run stops in this step, and each of its states meets Gauss's law
pub record IsStopped (Has : DeckView → Type 0) (step : ℕ) (stop : Stop) : Type 0 where
  pub deck : DeckView
  pub held : Has deck
  pub gauss : EachGauss (first_state deck)
  pub stops : after (first_state deck) deck.steps ≡ Err (EndStopped step stop)

-- what the answers mean of a command that runs a deck
abbrev pub RunMeans : (DeckView → Type 0) → Ended → Type 0
RunMeans Has (Done steps) = IsRunDone Has steps
RunMeans Has (Stopped step stop) = IsStopped Has step stop
RunMeans Has answer = ⊥

-- what they mean of a command on the deck that its source gives; `own` says it of its own
abbrev pub DeckMeans : (Call → Ended → Type 0) → Call → Ended → Type 0
DeckMeans own c (Refused refusal) = IsRefused c refusal
DeckMeans own c (Gauss b) = BreaksGauss (HasDeck c) b
DeckMeans own c answer = own c answer

-- a command on the deck that its source gives
abbrev pub on_given_deck : (DeckView → Outcome) → Leaving → (Call → Ended → Type 0) → Manner
on_given_deck performed left own = record {
  outcome = λ given. on_deck performed (opened given);
  leaves = left;
  takes = λ source source'. TakesOfDeck;
  reads = λ source source'. ReadsDeck source';
  means = DeckMeans own;
}
