-- A tile whose parcels are received and merged.
use Rattle.std.specs.Prelude.{◌≡◌, ℕ, ◌⊎◌, Bool, true, false}
use Rattle.pic_tile.specs.Directions.{here}
use Rattle.pic_tile.specs.Frame.{felt_in}
use Rattle.pic_tile.specs.Receiving.{IsOneMore, IsReceiving}
use Rattle.pic_tile.specs.Tile.{TileValue}
use Rattle.pic_yard.specs.declared.opening.Opening.{Opening}
use Rattle.pic_yard.specs.Contents.{start_at}

-- the tile r, into which the parcels of the directions done are merged
abbrev pub IsReceivingOf : Opening → (ℕ → Bool) → ℕ → TileValue → Type 0
IsReceivingOf o = IsReceiving (felt_in o.frame) o.frame.map (start_at o)

-- the parcel of no step comes first
abbrev pub IsInOrder : (ℕ → Bool) → ℕ → Type 0
IsInOrder done d = (d ≡ here) ⊎ (done here ≡ true)

-- the parcel of the direction d can be merged into the tile r
pub record CanTake (o : Opening) (r d : ℕ) (tile : TileValue) : Type 0 where
  pub done : ℕ → Bool
  pub receives : IsReceivingOf o done r tile
  pub free : done d ≡ false
  pub order : IsInOrder done d

-- and is
abbrev pub Takes : Opening → ℕ → ℕ → TileValue → TileValue → Type 0
Takes o r d old new =
    (done more : ℕ → Bool) → IsReceivingOf o done r old → IsInOrder done d
    → IsOneMore d done more → IsReceivingOf o more r new
