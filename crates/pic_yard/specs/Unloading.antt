-- A board that no seat shares any more: what lies in its slots is taken out.
use Rattle.std.specs.Prelude.{◌≡◌, ℕ, ◌<◌, List, false, slice_index_or}
use Rattle.std.specs.Slots.{slots_items, slots_filled, slots_len}
use Rattle.std.specs.Slots.Ownership.{Filled}
use Rattle.std.specs.declared.alloc.Global.{Global}
use Rattle.atomic_table.specs.declared.owned.Closed.{Closed}
use Rattle.pic_tile.specs.Tile.{TileValue}
use Rattle.pic_yard.specs.Contents.{Slot}
use Rattle.pic_yard.specs.Laying.{LiesThere}

-- what the slots had when the board was closed
abbrev pub slots_in : Closed Slot Global → List Slot
slots_in closed = slots_items closed.slots

-- a tile lies in the home slot of the tile t
pub record HasTile (slots : List Slot) (t : ℕ) : Type 0 where
  pub tile : TileValue
  pub lies : LiesThere slots t tile

-- nothing is left in the first n slots, and all others have their values
pub record AreEmptied (n : ℕ) (closed : Closed Slot Global) : Type 0 where
  pub gone : (k : ℕ) → k < n → slice_index_or (slots_filled closed.slots) k false ≡ false
  pub left : Filled (slots_filled closed.slots) n (slots_len closed.slots)

-- what lay in the first n slots is taken out, and nothing else
pub record IsOut (n : ℕ) (old new : Closed Slot Global) : Type 0 where
  pub emptied : AreEmptied n new
  pub items : slots_in new ≡ slots_in old
  pub long : slots_len new.slots ≡ slots_len old.slots
