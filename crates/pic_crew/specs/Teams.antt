-- All seats of a board, before and after their work.
use Rattle.std.specs.Prelude.{◌≡◌, ℕ, ◌<◌, List, length, false, slice_index_or}
use Rattle.atomic_table.specs.declared.shared.Seat.{Seat}
use Rattle.pic_yard.specs.declared.view.View.{View}
use Rattle.pic_yard.specs.declared.yard.Yard.{Yard}
use Rattle.pic_yard.specs.Contents.{Slot}
use Rattle.pic_yard.specs.Seats.{IsThrough, HoldsNothing, most_seats}
use Rattle.pic_yard.specs.Yards.{Serves, view_of}
use Rattle.pic_crew.specs.Posting.{IsSameSeat}

-- at most so many workers: each has a seat
abbrev pub most_workers : ℕ
most_workers = most_seats

-- a seat that was not told that no tile is left, and lists nothing
pub record CanWork (yard : Yard) (seat : Seat Slot View) : Type 0 where
  pub serves : Serves yard seat
  pub fresh : (view_of seat).told ≡ false
  pub idle : HoldsNothing (view_of seat)

-- a seat before and after its work
pub record HasWorked (yard : Yard) (old new : Seat Slot View) : Type 0 where
  pub serves : Serves yard new
  pub ended : IsThrough (view_of new)
  pub same : IsSameSeat (view_of old) (view_of new)

-- the seat of a number, whose work is done
pub record IsDone (yard : Yard) (number : ℕ) (seat : Seat Slot View) : Type 0 where
  pub serves : Serves yard seat
  pub ended : IsThrough (view_of seat)
  pub number_is : (view_of seat).number ≡ number

-- seats whose work is done, numbered in their order
abbrev pub AreDone : Yard → List (Seat Slot View) → Type 0
AreDone yard seats =
    (i : ℕ) (seat : Seat Slot View) → i < length seats → IsDone yard i (slice_index_or seats i seat)
