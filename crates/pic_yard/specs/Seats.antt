-- The seats of a board: those that it begins with, those that are done, and what they are numbered.
use Rattle.std.specs.Prelude.{◌≡◌, ℕ, ◌<◌, ◌⊎◌, List, [], ◌∷◌, length, true, false, Some, slice_index_or}
use Rattle.atomic_table.specs.declared.shared.Seat.{Seat}
use Rattle.pic_yard.specs.declared.opening.Opening.{Opening}
use Rattle.pic_yard.specs.declared.view.View.{View}
use Rattle.pic_yard.specs.declared.yard.Yard.{Yard}
use Rattle.pic_yard.specs.Contents.{Slot}
use Rattle.pic_yard.specs.Members.{In}
use Rattle.pic_yard.specs.Steps.{gave_number, newcomer}
use Rattle.pic_yard.specs.Yards.{opening_of, view_of, Serves}

-- at most so many seats
abbrev pub most_seats : ℕ
most_seats = 64

-- a seat lists no claim and no right
pub record HoldsNothing (v : View) : Type 0 where
  pub owes : v.owes ≡ []
  pub rights : v.rights ≡ []

-- it was told that no tile is left, and lists nothing
pub record IsThrough (v : View) : Type 0 where
  pub told : v.told ≡ true
  pub idle : HoldsNothing v

-- its own number, or one that it took in
abbrev pub HasNumber : View → ℕ → Type 0
HasNumber v x = (x ≡ v.number) ⊎ In x v.taken

-- it has the numbers of all seats
abbrev pub HasAllNumbers : ℕ → View → Type 0
HasAllNumbers seats v = (x : ℕ) → x < seats → HasNumber v x

-- the view of a seat that has done nothing, and is still to make others
abbrev pub new_view : Opening → ℕ → List ℕ → View
new_view o number unmade =
    record {
      live = true;
      opening = Some o;
      number = number;
      taken = [];
      unmade = unmade;
      drawn = 0;
      told = false;
      owes = [];
      rights = [];
      steps = 0;
    }

-- a seat of this board that has done nothing, and is still to make others
pub record IsNewSeat (yard : Yard) (number : ℕ) (unmade : List ℕ)
    (seat : Seat Slot View) : Type 0 where
  pub serves : Serves yard seat
  pub view : view_of seat ≡ new_view (opening_of yard) number unmade

-- new seats, numbered in their order
abbrev pub AreNewSeats : Yard → List (Seat Slot View) → Type 0
AreNewSeats yard seats =
    (i : ℕ) (seat : Seat Slot View) → i < length seats
    → IsNewSeat yard i [] (slice_index_or seats i seat)

-- the next of the numbers that a seat is still to make
abbrev pub next_of : List ℕ → ℕ
next_of [] = 0
next_of (x ∷ xs) = x

abbrev pub HasNext : View → Type 0
HasNext v = In (next_of v.unmade) v.unmade

-- a seat that makes it, and the seat that is made
abbrev pub gave_next : View → View
gave_next v = gave_number (next_of v.unmade) v

abbrev pub next_seat : View → View
next_seat v = newcomer v (next_of v.unmade)
