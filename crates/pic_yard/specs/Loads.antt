-- A seat before and after a parcel that it owes is laid into its mailbox, and what the step that
-- counts it tells.
use Rattle.std.specs.Prelude.{◌≡◌, ℕ, suc, ◌<◌, List, [], ◌∷◌, IfSome}
use Rattle.atomic_table.specs.declared.shared.Seat.{Seat}
use Rattle.atomic_table.specs.Table.{Me, rest}
use Rattle.pic_yard.specs.Fronts.{seek}
use Rattle.pic_tile.specs.Directions.{directions, here}
use Rattle.pic_yard.specs.declared.opening.Opening.{Opening}
use Rattle.pic_yard.specs.declared.view.View.{View}
use Rattle.pic_yard.specs.Arrivals.{behind, IsAboutToPost, Arrived}
use Rattle.pic_yard.specs.Contents.{Slot}
use Rattle.pic_yard.specs.Sits.{slot_at}

-- it lies first, and of the seat's slots behind it all others have what they had
pub record HasLoaded (o : Opening) (old new : Seat Slot View) (r d : ℕ) : Type 0 where
  pub table : new.table_id ≡ old.table_id
  pub view : new.me.0 ≡ old.me.0
  pub parcel : Slot
  pub loaded : IsAboutToPost o new.me r d parcel (rest new.me.1)
  pub others : (slot : ℕ) → (slot ≡ slot_at r d → ⊥) → (d ≡ here → slot ≡ slot_at r directions → ⊥)
      → seek slot (behind d (rest new.me.1)) ≡ seek slot old.me.1

abbrev pub first_slot : List (ℕ × Slot) → ℕ
first_slot [] = 0
first_slot (x ∷ xs) = x.0

-- the direction of a post is that of the mailbox that lies first
abbrev pub TellsOf : ℕ → Me Slot View → ℕ → Me Slot View → Type 0
TellsOf word old n new =
    (r d : ℕ) → word ≡ suc r → d < directions → first_slot old.1 ≡ slot_at r d
    → IfSome old.0.opening (λ o. Arrived o r d (rest old.1) old n new)
