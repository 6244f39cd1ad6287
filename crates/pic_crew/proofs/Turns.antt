-- What holds at each turn of the loops of a crew: a tile whose parcels are merged, a claim whose parcels are posted, a seat at
-- work, and one that takes in the others.
use Rattle.std.specs.Prelude.{◌≡◌, ℕ, ◌<◌, ◌≤◌, ◌||◌, Bool, true, false, List, length, not, nat_eq, nat_lt}
use Rattle.atomic_table.specs.declared.shared.Seat.{Seat}
use Rattle.pic_tile.specs.Directions.{directions, here}
use Rattle.pic_tile.specs.Tile.{TileValue, parcel_at}
use Rattle.pic_yard.specs.declared.view.View.{View}
use Rattle.pic_yard.specs.declared.yard.Yard.{Yard}
use Rattle.pic_yard.specs.Claims.{ClaimValue}
use Rattle.pic_yard.specs.Contents.{Slot}
use Rattle.pic_yard.specs.Seats.{IsThrough, HasNumber}
use Rattle.pic_yard.specs.Yards.{IsReceived, IsSentBy, MailWaits, Serves, mail_of, opening_of, view_of}
use Rattle.pic_crew.specs.Finishing.{IsReceivingOf}
use Rattle.pic_crew.specs.Posting.{HasPostedSome, IsSameSeat, OwesFrom}
use Rattle.pic_crew.specs.Teams.{AreDone, CanWork}

-- of the directions none is done
abbrev pub none_done : ℕ → Bool
none_done d = not (nat_lt d directions)

-- that of no step is done, and those below a number
abbrev pub finished_up_to : ℕ → ℕ → Bool
finished_up_to number d = (nat_eq d here || nat_lt d number) || none_done d

-- a seat with the right to the tile r, which has its view from before: the parcels of the
-- directions done are received and merged, the others wait, and the mail of other tiles stays
pub record IsTaking (yard : Yard) (r : ℕ) (done : ℕ → Bool) (old new : Seat Slot View)
    (tile : TileValue) : Type 0 where
  pub serves : Serves yard new
  pub view : view_of new ≡ view_of old
  pub waits : (d : ℕ) → d < directions → done d ≡ false → MailWaits (opening_of yard) new r d
  pub received : (d : ℕ) → d < directions → done d ≡ true → IsReceived new r d
  pub receives : IsReceivingOf (opening_of yard) done r tile
  pub others : (q d : ℕ) → (q ≡ r → ⊥) → d < directions → mail_of new q d ≡ mail_of old q d

-- a seat posts the parcels of its claim in the order of their directions; from the direction d on
-- they are as the push sends them
pub record IsSending (yard : Yard) (t d : ℕ) (old new : Seat Slot View)
    (claim : ClaimValue) : Type 0 where
  pub serves : Serves yard new
  pub number : claim.number ≡ t
  pub owes : OwesFrom (opening_of yard) t d (view_of new)
  pub worked : (e : ℕ) → d ≤ e → e < directions
      → IsSentBy (opening_of yard) t e (parcel_at claim.held e)
  pub some : HasPostedSome (view_of old) (view_of new)

-- a seat before its work, and between two claims
pub record IsWorking (yard : Yard) (old new : Seat Slot View) : Type 0 where
  pub can : CanWork yard new
  pub same : IsSameSeat (view_of old) (view_of new)

-- one of n seats takes in the others, of which these are left
pub record IsGathering (yard : Yard) (n : ℕ) (others : List (Seat Slot View))
    (seat : Seat Slot View) : Type 0 where
  pub left : AreDone yard others
  pub serves : Serves yard seat
  pub ended : IsThrough (view_of seat)
  pub numbers : (x : ℕ) → length others ≤ x → x < n → HasNumber (view_of seat) x
