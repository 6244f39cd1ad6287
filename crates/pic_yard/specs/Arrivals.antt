-- A post: the seat that owes a parcel lays it into its mailbox, and counts it.
use Rattle.std.specs.Prelude.{◌≡◌, ℕ, suc, ◌<◌, List, ◌∷◌, true, Some, eqb, if◌then◌else◌}
use mathlib.Core.Option.{none, some}
use Rattle.atomic_table.specs.Table.{Me, rest}
use Rattle.pic_yard.specs.Fronts.{seek}
use Rattle.pic_tile.specs.Directions.{directions, here}
use Rattle.pic_yard.specs.declared.opening.Opening.{Opening}
use Rattle.pic_yard.specs.declared.view.View.{View}
use Rattle.pic_yard.specs.Acts.{Apart}
use Rattle.pic_yard.specs.Contents.{Slot, vacant, from_of, HoldsParcel}
use Rattle.pic_yard.specs.Members.{In}
use Rattle.pic_yard.specs.Sits.{slot_at, IsMine}
use Rattle.pic_yard.specs.Steps.{did_post}

-- with the parcel of no step the home slot goes too
unfoldable pub behind : ℕ → List (ℕ × Slot) → List (ℕ × Slot)
behind d slots = if eqb d here then rest slots else slots

-- a seat that is about to post the parcel (r, d): it lies first, in its mailbox, and behind that of
-- no step the vacant home slot
pub record IsAboutToPost (o : Opening) (me : Me Slot View) (r d : ℕ) (parcel : Slot) (slots : List
    (ℕ × Slot)) : Type 0 where
  pub live : me.0.live ≡ true
  pub opened : me.0.opening ≡ Some o
  pub owes : In (r, d) me.0.owes
  pub first : me.1 ≡ (slot_at r d, parcel) ∷ slots
  pub is : HoldsParcel o (from_of o r d) d parcel
  pub home : d ≡ here → slots ≡ (slot_at r directions, vacant) ∷ rest slots
  pub only : (slot : ℕ) (y : Slot) → seek slot (behind d slots) ≡ some y → IsMine me.0 slot
  pub once : Apart me.1

-- the slots of r after the last post to it: all parcels, and the vacant home slot
pub record HasAllMail (o : Opening) (r : ℕ) (old new : List (ℕ × Slot)) : Type 0 where
  pub parcel : ℕ → Slot
  pub mail : (d : ℕ) → d < directions → seek (slot_at r d) new ≡ some (parcel d)
  pub is : (d : ℕ) → d < directions → HoldsParcel o (from_of o r d) d (parcel d)
  pub home : seek (slot_at r directions) new ≡ some vacant
  pub others : (slot : ℕ) → ((k : ℕ) → k < suc directions → slot ≡ slot_at r k → ⊥)
      → seek slot new ≡ seek slot old
  pub fresh : (k : ℕ) → k < suc directions → seek (slot_at r k) old ≡ none
  pub once : Apart new

-- what a post tells, where n parcels for r were posted before
pub record Arrived (o : Opening) (r d : ℕ) (slots : List (ℕ × Slot)) (before : Me Slot View)
    (n : ℕ) (after : Me Slot View) : Type 0 where
  pub view : after.0 ≡ did_post directions r d n before.0
  pub few : n < directions
  pub counted : suc n < directions → after.1 ≡ behind d slots
  pub last : suc n ≡ directions → HasAllMail o r (behind d slots) after.1
