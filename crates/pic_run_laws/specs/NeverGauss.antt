-- A deck without E whose species come in couples, one named and one displaced, is never answered
-- that it doesn't meet Gauss's law.
use Rattle.std.specs.Prelude.{◌≡◌, ⊤, ℕ, List, Some, Ok}
use Rattle.pic_charge.specs.declared.breaks.Break.{Break}
use Rattle.pic_deck.specs.Deck.{DeckView}
use Rattle.pic_displace.specs.Couples.{HasNoE, InCouples}
use Rattle.pic_line.specs.declared.asked.Command.{Command}
use Rattle.pic_line.specs.declared.asked.Command.TheVariants.{Check, Run, Probe}
use Rattle.pic_line.specs.CommandLine.{command_of}
use Rattle.pic_report.specs.declared.ended.Ended.TheVariants.{Gauss}
use Rattle.pic_report.specs.Reading.{Given}
use Rattle.pic_open.specs.Stages.{accepted}
use Rattle.pic_run.specs.Commands.{outcome}
use Rattle.pic_run_laws.specs.KeptDecks.{IsKeptDeck}

-- the commands that take a deck from the source
abbrev pub TakesDeck : Command → Type 0
TakesDeck Check = ⊤
TakesDeck (Run workers) = ⊤
TakesDeck (Probe workers) = ⊤
TakesDeck command = ⊥

-- where the source gives such a deck, no command that takes it answers so
abbrev pub CouplesAreNeverGauss : Type 0
CouplesAreNeverGauss =
    (words : List (List ℕ)) (command : Command) (given : Given) (d : DeckView) (b : Break)
    → command_of words ≡ Some command
    → TakesDeck command
    → accepted given ≡ Ok d
    → IsKeptDeck d
    → HasNoE d
    → InCouples d.species
    → (outcome words given).answer ≡ Gauss b
    → ⊥
