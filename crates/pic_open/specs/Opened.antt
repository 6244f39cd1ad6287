-- What opening a deck does.
use Rattle.std.specs.Prelude.{◌≡◌, ⊤, ℕ, ◌<◌, List, length, Result, Ok, Err}
use Rattle.pic_io.specs.Told.{Told, Calm}
use Rattle.pic_io.specs.Source.{IsAtEnd}
use Rattle.pic_deck.specs.Deck.{DeckView}
use Rattle.pic_load.specs.Loading.{loaded, AreLoaded}
use Rattle.pic_displace.specs.Displace.{displaced_allowed}
use Rattle.pic_devices.specs.Probes.{AreProbes}
use Rattle.pic_step.specs.Kept.{AreCut}
use Rattle.pic_step.specs.SerialStep.{e_of}
use Rattle.pic_step.specs.Sound.{IsSafe, IsSound}
use Rattle.pic_step.specs.declared.start.Start.{Start}
use Rattle.pic_step.specs.Start.{begun}
use Rattle.pic_report.specs.declared.early.Early.{Early}
use Rattle.pic_open.specs.declared.stage_stop.StageStop.{StageStop}
use Rattle.pic_open.specs.declared.stage_stop.StageStop.TheVariants.{Answer, NoMemory}
use Rattle.pic_open.specs.declared.opening_deck.Opened.{Opened}
use Rattle.pic_open.specs.DeckEnd.{DeckEnd, Staged, ended_at}
use Rattle.pic_report.specs.Early.{ended_early}
use Rattle.pic_open.specs.Stages.{accepted, tested, opened}
use Rattle.pic_open.specs.DeckReading.{deck_limit, TakesOfDeck}
use Rattle.pic_report.specs.Reading.{Given, Held, Reading}
use Rattle.pic_open.specs.Starting.{first_state}

-- a deck stands here with what its run begins with: that is sound, its fields are cut into the tiles of its map,
-- which are the deck's, and the deck's probes are within its limits
pub record CanBegin (o : Opened) : Type 0 where
  pub start : begun o.start ≡ first_state o.deck
  pub tiles : o.start.setup.map.tiles ≡ o.deck.tiles
  pub sound : IsSound (begun o.start)
  pub cut : AreCut o.start.setup.map o.start.e o.start.b
  pub probes : AreProbes (begun o.start).cells (length (begun o.start).particles) o.deck.probes

-- the deck meets Gauss's law, and can begin
pub record IsTested (d : DeckView) (o : Opened) : Type 0 where
  pub deck : tested d ≡ Ok o.deck
  pub begins : CanBegin o

-- a stage of a deck came to an end, and this early end says so
pub record IsEndOf (stage : Staged DeckView) (why : Early) : Type 0 where
  pub end : DeckEnd
  pub is : stage ≡ Err end
  pub answer : ended_early why ≡ ended_at end

-- the displaced start of a deck isn't too strong; it stands here, with the deck's tiles and particles, its fields
-- cut into the tiles of its map, and safe force values
pub record IsLoaded (d : DeckView) (s : Start) : Type 0 where
  pub fit : displaced_allowed d (loaded d) ≡ Ok tt
  pub start : begun s ≡ first_state d
  pub tiles : s.setup.map.tiles ≡ d.tiles
  pub cut : AreCut s.setup.map s.e s.b
  pub particles : AreLoaded d s.particles.items
  pub safe : IsSafe d.scales.e_force (e_of (begun s))

-- what loading a deck answers
abbrev pub Loads : DeckView → Result Start StageStop → Type 0
Loads d (Ok start) = IsLoaded d start
Loads d (Err (Answer why)) = IsEndOf (tested d) why
Loads d (Err NoMemory) = ⊤

-- what testing a deck answers
abbrev pub Tests : DeckView → Result Opened StageStop → Type 0
Tests d (Ok o) = IsTested d o
Tests d (Err (Answer why)) = IsEndOf (tested d) why
Tests d (Err NoMemory) = ⊤

-- the deck that was given can begin; the source is at its end
pub record IsDeckOpened (given : Given) (now : Told) (o : Opened) : Type 0 where
  pub deck : opened given ≡ Ok o.deck
  pub begins : CanBegin o
  pub end : IsAtEnd now

-- the end of what was given; where its deck is accepted, and where it is no longer than a deck may be,
-- the source is at its end
pub record IsEarly (given : Given) (now : Told) (why : Early) : Type 0 where
  pub early : IsEndOf (opened given) why
  pub end : (d : DeckView) → accepted given ≡ Ok d → IsAtEnd now
  pub short : (held : List ℕ) → given ≡ Held held → length held < deck_limit → IsAtEnd now

-- want of memory comes only where no read failed
abbrev pub OpensAs : Told → Told → Given → Result Opened StageStop → Type 0
OpensAs before now given (Ok o) = IsDeckOpened given now o
OpensAs before now given (Err (Answer why)) = IsEarly given now why
OpensAs before now given (Err NoMemory) = Calm before now

-- what opening a deck answers, from what its source gave
pub record Opens (before now : Told) (result : Result Opened StageStop) : Type 0 where
  pub read : Reading TakesOfDeck before now
  pub opens : OpensAs before now read.given result
