-- What a slot of the board can hold, against what the board began with.
use Rattle.std.specs.Prelude.{◌≡◌, ℕ, List, true, Option, Some, None}
use mathlib.Core.Option.{some}
use Rattle.pic_num.specs.declared.motion.Particle.{Particle}
use Rattle.pic_block.specs.Cells.{count_of}
use Rattle.pic_yard.specs.Fronts.{seek}
use Rattle.pic_tile.specs.declared.parcel.Parcel.{Parcel}
use Rattle.pic_tile.specs.Directions.{here}
use Rattle.pic_tile.specs.Frame.{felt_in}
use Rattle.pic_tile.specs.Layers.{sender_of}
use Rattle.pic_tile.specs.Parcels as parcels
use Rattle.pic_tile.specs.Receiving.{IsReceiving}
use Rattle.pic_tile.specs.Tile.{TileValue, chain_at, tile_in}
use Rattle.pic_tile.specs.Tiling.{neighbour_of}
use Rattle.pic_yard.specs.declared.opening.Opening.{Opening}
use Rattle.pic_yard.specs.declared.slot_content.SlotContent.{SlotContent}
use Rattle.pic_yard.specs.declared.slot_content.SlotContent.TheVariants as holds
use Rattle.pic_yard.specs.Places.{Kinds}

abbrev pub Slot : Type 0
Slot = Option SlotContent

-- a home slot whose tile is elsewhere: only the tile's place lies there
abbrev pub vacant : Slot
vacant = Some (holds.Tile None)

-- the place of a tile lies with a seat, in a home slot
abbrev pub HasPlace : ℕ → List (ℕ × Slot) → Type 0
HasPlace slot slots =
    (tile : Option TileValue) × (seek slot slots ≡ some (Some (holds.Tile tile)))

-- how many tiles there are
abbrev pub tiles_in : Opening → ℕ
tiles_in o = count_of o.frame.map.tiles

-- the tile to which the parcel of the direction d goes, and the tile from which it comes
unfoldable pub to_of : Opening → ℕ → ℕ → ℕ
to_of o t d = neighbour_of o.frame.map.tiles t d

unfoldable pub from_of : Opening → ℕ → ℕ → ℕ
from_of o r d = sender_of o.frame.map d r

-- the particles with which the tile t begins
abbrev pub start_at : Opening → ℕ → List Particle
start_at o t = chain_at (tile_in o.tiles.items t) here

-- the tile t as it was at the start
abbrev pub tile_at : Opening → ℕ → Slot
tile_at o t = Some (holds.Tile (Some (tile_in o.tiles.items t)))

abbrev pub IsTile : Opening → ℕ → Slot → Type 0
IsTile o t s = s ≡ tile_at o t

-- the parcel of the direction d that the push of the tile t sends
pub record HoldsParcel (o : Opening) (t d : ℕ) (s : Slot) : Type 0 where
  pub parcel : Parcel
  pub is : s ≡ Some (holds.Parcel parcel)
  pub content : parcels.IsParcel (felt_in o.frame) o.frame.map (start_at o t) t d parcel

-- all parcels that come to the tile r are merged into it
abbrev pub IsShut : Opening → ℕ → TileValue → Type 0
IsShut o r t = IsReceiving (felt_in o.frame) o.frame.map (start_at o) (λ d. true) r t

-- the finished tile r
pub record IsFinished (o : Opening) (r : ℕ) (s : Slot) : Type 0 where
  pub tile : TileValue
  pub is : s ≡ Some (holds.Tile (Some tile))
  pub content : IsShut o r tile

abbrev pub slot_kinds : Opening → Kinds Slot
slot_kinds o = record {
  IsEmpty = λ s. s ≡ None;
  IsTile = IsTile o;
  IsParcel = HoldsParcel o;
  IsFinished = IsFinished o;
  IsVacant = λ s. s ≡ vacant;
}
