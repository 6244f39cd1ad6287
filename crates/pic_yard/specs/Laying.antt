-- The slots of a board at its start.
use Rattle.std.specs.Prelude.{◌≡◌, ℕ, suc, ◌+◌, ◌*◌, ◌<◌, List, Some, None, length}
use mathlib.Core.Option.{some}
use lib.ListN.{get_elem?}
use Rattle.pic_tile.specs.Directions.{directions}
use Rattle.pic_tile.specs.Tile.{TileValue, tile_in}
use Rattle.pic_yard.specs.declared.slot_content.SlotContent.TheVariants as holds
use Rattle.pic_yard.specs.Contents.{Slot}
use Rattle.pic_yard.specs.Sits.{slot_at}

-- the tile lies in the home slot of the tile t
abbrev pub LiesThere : List Slot → ℕ → TileValue → Type 0
LiesThere slots t tile =
    get_elem? slots (slot_at t directions) ≡ some (Some (holds.Tile (Some tile)))

-- the tile t of a list lies in its home slot
abbrev pub LiesHome : List TileValue → List Slot → ℕ → Type 0
LiesHome tiles slots t = LiesThere slots t (tile_in tiles t)

-- the slots of the first n tiles of a list: their mailboxes empty, and each in its home slot
pub record AreLaid (tiles : List TileValue) (n : ℕ) (slots : List Slot) : Type 0 where
  pub long : length slots ≡ n * suc directions
  pub boxes : (r d : ℕ) → r < n → d < directions → get_elem? slots (slot_at r d) ≡ some None
  pub homes : (t : ℕ) → t < n → LiesHome tiles slots t

-- n empty mailboxes are laid behind other slots
pub record HasBoxes (n : ℕ) (old new : List Slot) : Type 0 where
  pub long : length new ≡ length old + n
  pub boxes : (d : ℕ) → d < n → get_elem? new (length old + d) ≡ some None
  pub others : (slot : ℕ) (y : Slot) → get_elem? old slot ≡ some y → get_elem? new slot ≡ some y
