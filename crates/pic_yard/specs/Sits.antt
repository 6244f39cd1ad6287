-- What a seat has between two calls: its view, and the slots that lie with it.
use Rattle.std.specs.Prelude.{◌≡◌, ℕ, suc, ◌<◌, ◌≤◌, ◌⊎◌, List, true, Some, None}
use mathlib.Core.Option.{none, some}
use Rattle.atomic_table.specs.Table.{Me}
use Rattle.pic_yard.specs.Fronts.{seek}
use Rattle.pic_tile.specs.CoreState.{IsOpening, IsSoundFrame}
use Rattle.pic_tile.specs.Directions.{directions, here}
use Rattle.pic_yard.specs.declared.opening.Opening.{Opening}
use Rattle.pic_yard.specs.declared.view.View.{View}
use Rattle.pic_yard.specs.Acts.{Apart}
use Rattle.pic_yard.specs.Contents.{Slot, vacant, tiles_in, to_of, from_of, tile_at, HoldsParcel}
use Rattle.pic_yard.specs.Members.{In}
use Rattle.pic_yard.specs.Places.{slot_in}
use Rattle.pic_yard.specs.Steps.{did_claim, was_told}

-- the mailbox (r, k), or the home slot of r where k is the number of directions
abbrev pub slot_at : ℕ → ℕ → ℕ
slot_at = slot_in directions

-- the view lets its seat move the slot
pub data IsMine (v : View) (slot : ℕ) : Type 0 where
  a_box : (r d : ℕ) → d < directions → slot ≡ slot_at r d → In (r, d) v.owes → IsMine v slot
  a_home : (t : ℕ) → slot ≡ slot_at t directions → In (t, here) v.owes → IsMine v slot
  of_right : (r k : ℕ) → k < suc directions → slot ≡ slot_at r k → In r v.rights → IsMine v slot

-- a mailbox of a right: it still has its parcel, or that was received
pub data HasMail (o : Opening) (slots : List (ℕ × Slot)) (r d : ℕ) : Type 0 where
  waits : (y : Slot) → seek (slot_at r d) slots ≡ some y → HoldsParcel o (from_of o r d) d y
      → HasMail o slots r d
  received : seek (slot_at r d) slots ≡ some None → HasMail o slots r d

-- The slots with a seat: of its claims the mailboxes, empty, and the home slots, vacant; of its
-- rights the mailboxes, and the home slots, vacant; no other slot, and none twice.
pub record Carries (o : Opening) (v : View) (slots : List (ℕ × Slot)) : Type 0 where
  pub near : (r d : ℕ) → In (r, d) v.owes → (r < tiles_in o) × (d < directions)
  pub inside : (r : ℕ) → In r v.rights → r < tiles_in o
  pub apart : (r d : ℕ) → In (r, d) v.owes → In r v.rights → ⊥
  pub box : (r d : ℕ) → In (r, d) v.owes → seek (slot_at r d) slots ≡ some None
  pub home : (t : ℕ) → In (t, here) v.owes → seek (slot_at t directions) slots ≡ some vacant
  pub mail : (r d : ℕ) → In r v.rights → d < directions → HasMail o slots r d
  pub right : (r : ℕ) → In r v.rights → seek (slot_at r directions) slots ≡ some vacant
  pub only : (slot : ℕ) (y : Slot) → seek slot slots ≡ some y → IsMine v slot
  pub once : Apart slots

-- a seat of a board that began so
pub record Sits (o : Opening) (me : Me Slot View) : Type 0 where
  pub sound : IsSoundFrame o.frame
  pub opens : IsOpening o.frame o.tiles.items
  pub live : me.0.live ≡ true
  pub opened : me.0.opening ≡ Some o
  pub carries : Carries o me.0 me.1

-- one of the slots of a claim of the tile t
pub data IsOfClaim (o : Opening) (t slot : ℕ) : Type 0 where
  claim_box : (d : ℕ) → d < directions → slot ≡ slot_at (to_of o t d) d → IsOfClaim o t slot
  claim_home : slot ≡ slot_at t directions → IsOfClaim o t slot

-- a draw of the number n of a tile: the seat has the tile, in its home slot, and the mailboxes to
-- which its parcels go; its other slots are as before
pub record Claimed (o : Opening) (before : Me Slot View) (n : ℕ)
    (after : Me Slot View) : Type 0 where
  pub view : after.0 ≡ did_claim (to_of o) directions n before.0
  pub boxes : (d : ℕ) → d < directions → seek (slot_at (to_of o n d) d) after.1 ≡ some None
  pub home : seek (slot_at n directions) after.1 ≡ some (tile_at o n)
  pub others : (slot : ℕ) → (IsOfClaim o n slot → ⊥) → seek slot after.1 ≡ seek slot before.1
  pub fresh : (d : ℕ) → d < directions → seek (slot_at (to_of o n d) d) before.1 ≡ none
  pub kept : (slot : ℕ) (y : Slot) → seek slot before.1 ≡ some y → seek slot after.1 ≡ some y
  pub came : (slot : ℕ) (y : Slot) → seek slot after.1 ≡ some y
      → IsOfClaim o n slot ⊎ (seek slot before.1 ≡ some y)
  pub once : Apart after.1

-- what a draw of the number n tells
pub record Drawn (o : Opening) (before : Me Slot View) (n : ℕ) (after : Me Slot View) : Type 0 where
  pub later : before.0.drawn ≤ n
  pub claimed : n < tiles_in o → Claimed o before n after
  pub told : tiles_in o ≤ n → after ≡ (was_told n before.0, before.1)
