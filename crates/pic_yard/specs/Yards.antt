-- The board and the seats at it, as callers see them.
use Rattle.std.specs.Prelude.{◌≡◌, ℕ, ◌<◌, Option, None}
use mathlib.Core.Option.{some}
use mathlib.Core.Option as core
use Rattle.atomic_table.specs.declared.shared.Seat.{Seat}
use Rattle.pic_yard.specs.Fronts.{seek}
use Rattle.pic_tile.specs.Directions.{directions}
use Rattle.pic_tile.specs.Frame.{felt_in}
use Rattle.pic_tile.specs.Pushed.{IsSent}
use Rattle.pic_tile.specs.declared.parcel.Parcel.{Parcel}
use Rattle.pic_yard.specs.declared.opening.Opening.{Opening}
use Rattle.pic_yard.specs.declared.view.View.{View}
use Rattle.pic_yard.specs.declared.yard.Yard.{Yard}
use Rattle.pic_yard.specs.Contents.{Slot, tiles_in, to_of, from_of, start_at, HoldsParcel}
use Rattle.pic_yard.specs.Members.{In}
use Rattle.pic_yard.specs.Sits.{slot_at, Sits}

-- what the board began with
abbrev pub opening_of : Yard → Opening
opening_of yard = yard.opening

-- what a seat knows
abbrev pub view_of : Seat Slot View → View
view_of seat = seat.me.0

-- the seat is one of this board's
pub record Serves (yard : Yard) (seat : Seat Slot View) : Type 0 where
  pub own : seat.table_id ≡ yard.table_id
  pub sits : Sits (opening_of yard) seat.me

-- the seat claimed the tile t, and still owes its parcel of the direction d
pub record Owes (o : Opening) (v : View) (t d : ℕ) : Type 0 where
  pub tile : t < tiles_in o
  pub lists : In (to_of o t d, d) v.owes

-- the parcel that the push of the tile t sends in the direction d
abbrev pub IsSentBy : Opening → ℕ → ℕ → Option Parcel → Type 0
IsSentBy o t d = IsSent (felt_in o.frame) o.frame.map (start_at o t) t d

-- what lies with a seat in the mailbox (r, d)
abbrev pub mail_of : Seat Slot View → ℕ → ℕ → core.Option Slot
mail_of seat r d = seek (slot_at r d) seat.me.1

-- the parcel of the direction d to the tile r lies with the seat, to be received
pub record MailWaits (o : Opening) (seat : Seat Slot View) (r d : ℕ) : Type 0 where
  pub parcel : Slot
  pub there : mail_of seat r d ≡ some parcel
  pub is : HoldsParcel o (from_of o r d) d parcel

-- it was received
abbrev pub IsReceived : Seat Slot View → ℕ → ℕ → Type 0
IsReceived seat r d = mail_of seat r d ≡ some None

-- nothing of the mail of the rights that v lists has changed
abbrev pub KeepsMail : View → Seat Slot View → Seat Slot View → Type 0
KeepsMail v old new = (r d : ℕ) → In r v.rights → d < directions → mail_of new r d ≡ mail_of old r d

-- all parcels to r were
abbrev pub AreReceived : Seat Slot View → ℕ → Type 0
AreReceived seat r = (d : ℕ) → d < directions → IsReceived seat r d
