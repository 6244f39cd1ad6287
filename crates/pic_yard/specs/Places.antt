-- What lies in the slots that are at home, and which slots are away with a seat. A tile r has a
-- mailbox `slot r d` for each direction d, and its home slot `slot r dirs`.
use Rattle.std.specs.Prelude.{◌≡◌, ℕ, suc, ◌+◌, ◌*◌, ◌<◌, ◌≤◌, List, true, false}
use mathlib.Core.Option.{Option, none, some}
use lib.ListN.{get_elem?}
use Rattle.pic_yard.specs.Marks.{Board}
use Rattle.pic_yard.specs.Members.{count_below}

abbrev pub slot_in : ℕ → ℕ → ℕ → ℕ
slot_in dirs r k = r * suc dirs + k

-- the slot is at home, and what lies there has P
pub record IsHome {S : Type 0} (homes : List (Option S)) (slot : ℕ) (P : S → Type 0) : Type 0 where
  pub value : S
  pub there : get_elem? homes slot ≡ some (some value)
  pub is : P value

-- the slot is away
abbrev pub IsAway : {S : Type 0} → List (Option S) → ℕ → Type 0
IsAway homes slot = get_elem? homes slot ≡ some none

-- what the values in slots can be: nothing, the tile t as it was, the parcel of the direction d
-- that the tile t sends, the finished tile r, the place of a tile that is elsewhere
pub record Kinds (S : Type 0) : Type 1 where
  pub IsEmpty : S → Type 0
  pub IsTile : ℕ → S → Type 0
  pub IsParcel : ℕ → ℕ → S → Type 0
  pub IsFinished : ℕ → S → Type 0
  pub IsVacant : S → Type 0

-- the slots at home: mailboxes before their sender is claimed and after their receiver is shut, a
-- posted parcel until the last of its receiver is posted; home slots before the claim, vacant from
-- the post of no step until the last parcel for the tile is posted, and after the tile is shut
pub record Places {S : Type 0} (kinds : Kinds S) (b : Board)
    (homes : List (Option S)) : Type 0 where
  pub bare : (r d : ℕ) → r < b.tiles → d < b.dirs → b.ticket ≤ b.from r d
      → IsHome homes (slot_in b.dirs r d) kinds.IsEmpty
  pub full : (r d : ℕ) → r < b.tiles → d < b.dirs → b.posted r d ≡ true
      → count_below (b.posted r) b.dirs < b.dirs
      → IsHome homes (slot_in b.dirs r d) (kinds.IsParcel (b.from r d) d)
  pub emptied : (r d : ℕ) → r < b.tiles → d < b.dirs → b.shut r ≡ true
      → IsHome homes (slot_in b.dirs r d) kinds.IsEmpty
  pub opening : (t : ℕ) → t < b.tiles → b.ticket ≤ t
      → IsHome homes (slot_in b.dirs t b.dirs) (kinds.IsTile t)
  pub between : (t : ℕ) → t < b.tiles → b.posted t b.here ≡ true
      → count_below (b.posted t) b.dirs < b.dirs
      → IsHome homes (slot_in b.dirs t b.dirs) kinds.IsVacant
  pub finished : (r : ℕ) → r < b.tiles → b.shut r ≡ true
      → IsHome homes (slot_in b.dirs r b.dirs) (kinds.IsFinished r)

-- the slots that are away: a mailbox from the claim of its sender to its post, a home slot from the
-- claim to the post of no step, and all slots of a tile from the last post to it until it is shut
pub record Aways {S : Type 0} (b : Board) (homes : List (Option S)) : Type 0 where
  pub lent : (r d : ℕ) → r < b.tiles → d < b.dirs → b.from r d < b.ticket → b.posted r d ≡ false
      → IsAway homes (slot_in b.dirs r d)
  pub left : (t : ℕ) → t < b.tiles → t < b.ticket → b.posted t b.here ≡ false
      → IsAway homes (slot_in b.dirs t b.dirs)
  pub held : (r k : ℕ) → r < b.tiles → k < suc b.dirs → count_below (b.posted r) b.dirs ≡ b.dirs
      → b.shut r ≡ false
      → IsAway homes (slot_in b.dirs r k)
