-- Histories of a board: states that follow one another, each by a step of a seat.
use Rattle.std.specs.Prelude.{◌≡◌, ℕ, suc, ◌<◌, ◌≤◌, List, [], ◌∷◌, ◌++◌, true, false, Some}
use mathlib.Core.Option.{some}
use lib.ListN.{get_elem?}
use Rattle.atomic_table.specs.Table.{State, Me, Allows, Splits, Joins}
use Rattle.pic_tile.specs.Directions.{directions}
use Rattle.pic_core.specs.declared.event.Event.{Event}
use Rattle.pic_yard.specs.declared.opening.Opening.{Opening}
use Rattle.pic_yard.specs.declared.view.View.{View}
use Rattle.pic_yard.specs.Arrivals.{IsAboutToPost, Arrived}
use Rattle.pic_yard.specs.Contents.{Slot, from_of}
use Rattle.pic_yard.specs.Members.{In, Differ}
use Rattle.pic_yard.specs.Returns.{IsStacked, Returned}
use Rattle.pic_yard.specs.Rule.{Rule, ticket_of}
use Rattle.pic_yard.specs.Sits.{Sits, Drawn}
use Rattle.pic_yard.specs.Steps.{gave_number, newcomer, took_in, spent_view}
use Rattle.pic_board_laws.specs.BoardSteps.{IsStep, one_more, events_of, numbers_of}

-- the states follow s, each by a step from the one before, which meets the board's rule
abbrev pub Follow : Opening → State Slot View → List (State Slot View) → Type 0
Follow o s [] = Unit {0}
Follow o s (next ∷ more) = Rule o s × IsStep o s next × Follow o next more

-- the last of them
abbrev pub last_of : State Slot View → List (State Slot View) → State Slot View
last_of s [] = s
last_of s (next ∷ more) = last_of next more

-- the events of the core that their steps stand for
abbrev pub events_along : (o : Opening) (s : State Slot View) (more : List (State Slot View))
    → Follow o s more → List Event
events_along o s [] way = []
events_along o s (next ∷ more) way = events_of o s next way.1 ++ events_along o next more way.2

-- the state meets the rule, and ends a history that begins with that start
pub record EndsHistory (o : Opening) (start s : State Slot View) : Type 0 where
  pub between : List (State Slot View)
  pub way : Follow o start between
  pub last : last_of start between ≡ s
  pub rule : Rule o s

-- That a state ends a history is kept, as the rule is, by each kind of step with what it tells its
-- seat: whatever the other seats do in between, the step is one more of a history.
pub record KeepsHistory (o : Opening) (start : State Slot View) : Type 0 where
  pub begins : Rule o start → EndsHistory o start start
  pub draw : (slots id : ℕ) (me : Me Slot View) → Sits o me → me.0.told ≡ false
      → Allows (EndsHistory o start) slots id me 0 one_more (Drawn o me)
  pub post : (slots id : ℕ) (me : Me Slot View) (r d : ℕ) (parcel : Slot) (list : List (ℕ × Slot))
      → IsAboutToPost o me r d parcel list
      → Allows (EndsHistory o start) slots id me (suc r) one_more (Arrived o r d list me)
  pub back : (slots id : ℕ) (me : Me Slot View) (r : ℕ) (tile : Slot) (list : List (ℕ × Slot))
      → IsStacked o me r tile list
      → Allows (EndsHistory o start) slots id me (suc r) (λ n. suc directions)
      (λ n. Returned r list me)
  pub split : (id : ℕ) (v : View) (x : ℕ) → v.live ≡ true → v.opening ≡ Some o → In x v.unmade
      → Splits (EndsHistory o start) id v (gave_number x v) (newcomer v x)
  pub join : (id : ℕ) (v : View) (other : ℕ) (u : View) → v.live ≡ true → v.opening ≡ Some o
      → u.live ≡ true → u.told ≡ true → u.owes ≡ [] → u.rights ≡ []
      → Joins (EndsHistory o start) id v other u (took_in v u) spent_view

abbrev pub EachStateEndsAHistory : Type 0
EachStateEndsAHistory = (o : Opening) (start : State Slot View) → KeepsHistory o start

-- the numbers that are drawn on the way
abbrev pub drawn_along : (o : Opening) (s : State Slot View) (more : List (State Slot View))
    → Follow o s more → List ℕ
drawn_along o s [] way = []
drawn_along o s (next ∷ more) way = numbers_of o s next way.1 ++ drawn_along o next more way.2

-- whichever seats draw, no number is drawn twice
abbrev pub EachNumberIsDrawnOnce : Type 0
EachNumberIsDrawnOnce =
    (o : Opening) (s : State Slot View) (more : List (State Slot View)) (way : Follow o s more)
    → Differ (drawn_along o s more way)

-- The draws of each live view are below the ticket, and so are the tiles of which it owes parcels;
-- no two live views owe parcels of one tile.
pub record AreDrawnApart (o : Opening) (s : State Slot View) : Type 0 where
  pub below : (j : ℕ) (v : View) → get_elem? s.views j ≡ some v → v.live ≡ true
      → v.drawn ≤ ticket_of s
  pub claimed : (j : ℕ) (v : View) → get_elem? s.views j ≡ some v → v.live ≡ true
      → (r d : ℕ) → In (r, d) v.owes → from_of o r d < ticket_of s
  pub apart : (i j : ℕ) (u v : View) → get_elem? s.views i ≡ some u → u.live ≡ true
      → get_elem? s.views j ≡ some v → v.live ≡ true
      → (r d q e : ℕ) → In (r, d) u.owes → In (q, e) v.owes → from_of o r d ≡ from_of o q e → i ≡ j

abbrev pub NoTwoSeatsClaimOneTile : Type 0
NoTwoSeatsClaimOneTile = (o : Opening) (s : State Slot View) → Rule o s → AreDrawnApart o s
