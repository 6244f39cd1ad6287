-- The command `check`: whether a deck can be run.
use Rattle.std.specs.Prelude.{◌≡◌, ℕ, length}
use Rattle.pic_deck.specs.Deck.{DeckView}
use Rattle.pic_load.specs.Loading.{loaded}
use Rattle.pic_report.specs.declared.ended.Ended.{Ended}
use Rattle.pic_report.specs.declared.ended.Ended.TheVariants.{Checked}
use Rattle.pic_open.specs.Starting.{first_state}
use Rattle.pic_states.specs.EachGauss.{IsGauss}
use Rattle.pic_run.specs.DeckOutcome.{check_outcome}
use Rattle.pic_report.specs.Leaves.{LeavesNothing}
use Rattle.pic_report.specs.Manner.{Call, Manner}
use Rattle.pic_run.specs.OnDeck.{HasDeck, on_given_deck}

-- the deck meets Gauss's law, and these are its particles
pub record IsChecked (c : Call) (particles : ℕ) : Type 0 where
  pub deck : DeckView
  pub held : HasDeck c deck
  pub gauss : IsGauss (first_state deck)
  pub count : particles ≡ length (loaded deck)

abbrev pub CheckMeans : Call → Ended → Type 0
CheckMeans c (Checked particles) = IsChecked c particles
CheckMeans c answer = ⊥

abbrev pub checking : Manner
checking = on_given_deck check_outcome LeavesNothing CheckMeans
