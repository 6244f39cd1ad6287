-- What a run begins with: the deck's own fields where no species is displaced, and particles that are within
-- their limits. And all of the current of a way counts.
use Rattle.std.specs.Prelude.{◌≡◌, ℕ, pos, ◌<◌, ◌≤◌, false, Some}
use Rattle.pic_num.specs.declared.axis.Axis.{Axis}
use Rattle.pic_num.specs.Limits.{most_side}
use Rattle.pic_num.specs.Space.{Triple, Spot}
use Rattle.pic_grid.specs.Traces.{IsBeyond}
use Rattle.pic_deck.specs.Deck.{DeckView}
use Rattle.pic_load.specs.Loading.{AreLoaded, loaded}
use Rattle.pic_ways.specs.declared.way.Way.{Way}
use Rattle.pic_ways.specs.Way.{IsWay, way_flux}
use Rattle.pic_displace.specs.Displace.{has_displaced}
use Rattle.pic_step.specs.SerialRun.{start_of}
use Rattle.pic_open.specs.Starting.{first_state}
use Rattle.pic_run_laws.specs.KeptDecks.{IsKeptDeck}

-- where no species is displaced, the state 0 has the deck's own fields
abbrev pub PlainDecksBeginAsSaid : Type 0
PlainDecksBeginAsSaid =
    (d : DeckView) → has_displaced d.species ≡ false → first_state d ≡ start_of d (loaded d)

-- the particles of a deck that its type keeps are within their limits
abbrev pub DecksAreLoaded : Type 0
DecksAreLoaded = (d : DeckView) → IsKeptDeck d → AreLoaded d (loaded d)

-- a way's flux at the edges that wrap to one of the grid: beyond the three nearest along an axis there is none
pub record StaysNear (side : ℕ) (n : Triple) (w : Way) : Type 0 where
  pub x : (a : Axis) (c : Spot) → IsBeyond n.x c.x → way_flux side (Some w) a c ≡ pos 0
  pub y : (a : Axis) (c : Spot) → IsBeyond n.y c.y → way_flux side (Some w) a c ≡ pos 0
  pub z : (a : Axis) (c : Spot) → IsBeyond n.z c.z → way_flux side (Some w) a c ≡ pos 0

-- so the current of ways, which adds up these three, leaves out none of it
abbrev pub WaysStayNear : Type 0
WaysStayNear =
    (side : ℕ) (n : Triple) (w : Way) → 0 < side → side ≤ most_side → IsWay side n w → StaysNear side n w
