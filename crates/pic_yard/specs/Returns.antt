-- A finished tile is given back, with the mailboxes of its parcels.
use Rattle.std.specs.Prelude.{◌≡◌, ℕ, zero, suc, List, ◌∷◌, true, Some, None}
use Rattle.atomic_table.specs.declared.shared.Seat.{Seat}
use Rattle.atomic_table.specs.Table.{Me, rest}
use Rattle.pic_yard.specs.Fronts.{drop_slot}
use Rattle.pic_tile.specs.Directions.{directions}
use Rattle.pic_yard.specs.declared.opening.Opening.{Opening}
use Rattle.pic_yard.specs.declared.view.View.{View}
use Rattle.pic_yard.specs.Contents.{Slot, IsFinished}
use Rattle.pic_yard.specs.Members.{In}
use Rattle.pic_yard.specs.Sits.{slot_at}
use Rattle.pic_yard.specs.Steps.{gave_back}

-- the first n mailboxes of r, empty, before other slots
unfoldable pub boxes_on : ℕ → ℕ → List (ℕ × Slot) → List (ℕ × Slot)
boxes_on r zero slots = slots
boxes_on r (suc k) slots = (slot_at r k, None) ∷ boxes_on r k slots

-- a seat that is about to give back the tile r: it lies first, in its home slot, and behind it lie
-- the empty mailboxes
pub record IsStacked (o : Opening) (me : Me Slot View) (r : ℕ) (tile : Slot) (slots : List
    (ℕ × Slot)) : Type 0 where
  pub live : me.0.live ≡ true
  pub opened : me.0.opening ≡ Some o
  pub right : In r me.0.rights
  pub first : me.1 ≡ (slot_at r directions, tile) ∷ boxes_on r directions slots
  pub is : IsFinished o r tile

-- without the slots of the first n mailboxes of r
unfoldable pub shed : ℕ → ℕ → List (ℕ × Slot) → List (ℕ × Slot)
shed r zero slots = slots
shed r (suc k) slots = drop_slot (slot_at r k) (shed r k slots)

-- without any slot of r
abbrev pub all_shed : ℕ → List (ℕ × Slot) → List (ℕ × Slot)
all_shed r slots = drop_slot (slot_at r directions) (shed r directions slots)

-- a seat before and after its finished tile r is laid into the home slot
pub record IsPutHome (o : Opening) (old new : Seat Slot View) (r : ℕ) : Type 0 where
  pub table : new.table_id ≡ old.table_id
  pub view : new.me.0 ≡ old.me.0
  pub tile : Slot
  pub stacked : IsStacked o new.me r tile (all_shed r old.me.1)

-- behind the first n slots
unfoldable pub past : ℕ → List (ℕ × Slot) → List (ℕ × Slot)
past zero slots = slots
past (suc n) slots = past n (rest slots)

-- what giving back tells
abbrev pub Returned : ℕ → List (ℕ × Slot) → Me Slot View → Me Slot View → Type 0
Returned r slots before after = after ≡ (gave_back r before.0, slots)

-- and by the word that is stored
abbrev pub TellsBack : ℕ → Me Slot View → Me Slot View → Type 0
TellsBack word before after = (r : ℕ) → word ≡ suc r
    → Returned r (past (suc directions) before.1) before after
