-- The board stands for the core: at its start, from step to step, and at its end.
use Rattle.std.specs.Prelude.{ℕ, List}
use mathlib.Core.Option.{Option}
use Rattle.atomic_table.specs.Table.{State, opening}
use Rattle.pic_tile.specs.CoreState.{CoreState, IsOpening, IsSoundFrame, AreAllShut}
use Rattle.pic_core.specs.declared.event.Event.{Event}
use Rattle.pic_core.specs.AtStart.{IsAtStart}
use Rattle.pic_core.specs.Events.{Ran}
use Rattle.pic_yard.specs.declared.opening.Opening.{Opening}
use Rattle.pic_yard.specs.declared.view.View.{View}
use Rattle.pic_yard.specs.Contents.{Slot}
use Rattle.pic_yard.specs.Laws.{IsLaid, IsOver}
use Rattle.pic_yard.specs.Rule.{Rule}
use Rattle.pic_yard.specs.Steps.{first_view}
use Rattle.pic_board_laws.specs.BoardSteps.{IsStep, events_of}
use Rattle.pic_board_laws.specs.Histories.{Follow, last_of, events_along}
use Rattle.pic_board_laws.specs.StandsFor.{StandsFor}

-- a state of the core that the board stands for, and that events lead to from the start
pub record HasCore (o : Opening) (s : State Slot View) : Type 0 where
  pub start : CoreState
  pub events : List Event
  pub core : CoreState
  pub begins : IsAtStart o.frame o.tiles.items start
  pub ran : Ran start events core
  pub is : StandsFor o s core

-- for each state that meets the board's rule there is one
abbrev pub TheBoardStandsForTheCore : Type 0
TheBoardStandsForTheCore = (o : Opening) (s : State Slot View) → Rule o s → HasCore o s

-- the events lead from that state of the core to one that this state of the board stands for
abbrev pub LeadsTo : Opening → CoreState → List Event → State Slot View → Type 0
LeadsTo o c events next = (after : CoreState) × Ran c events after × StandsFor o next after

-- each step of the board is events of the core, each of them allowed when it comes
abbrev pub TheBoardGoesOnAsTheCore : Type 0
TheBoardGoesOnAsTheCore = (o : Opening) (s next : State Slot View) (c : CoreState) → Rule o s
    → StandsFor o s c → (step : IsStep o s next) → LeadsTo o c (events_of o s next step) next

-- what lies in slots is no part of it: where a seat puts something into a slot that it has, or
-- takes something out, the board stands for the same state
abbrev pub SlotsAreNoEvents : Type 0
SlotsAreNoEvents =
    (o : Opening) (s : State Slot View) (c : CoreState) (homes : List (Option Slot))
    → StandsFor o s c → StandsFor o (record s { homes = homes }) c

-- at its start the board stands for the core before its first event
abbrev pub TheBoardBeginsAsTheCore : Type 0
TheBoardBeginsAsTheCore =
    (o : Opening) (words : List ℕ) (slots : List Slot) (c : CoreState)
    → IsSoundFrame o.frame → IsOpening o.frame o.tiles.items → IsLaid o words slots
    → IsAtStart o.frame o.tiles.items c → StandsFor o (opening words slots (first_view o)) c

-- whichever steps follow, they are events of the core, each of them allowed when it comes
abbrev pub TheBoardRunsAsTheCore : Type 0
TheBoardRunsAsTheCore =
    (o : Opening) (s : State Slot View) (more : List (State Slot View)) (c : CoreState)
    → StandsFor o s c → (way : Follow o s more)
    → LeadsTo o c (events_along o s more way) (last_of s more)

-- where all words are those of shut tiles, all tiles of the core are shut
abbrev pub TheBoardEndsAsTheCore : Type 0
TheBoardEndsAsTheCore = (o : Opening) (s : State Slot View) (c : CoreState) → IsOver o s
    → StandsFor o s c → AreAllShut c
