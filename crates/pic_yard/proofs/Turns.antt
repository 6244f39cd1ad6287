-- What holds at each turn of the loops that lay a board's slots, make its seats and take its tiles out.
use Rattle.std.specs.Prelude.{◌≡◌, ℕ, suc, ◌-◌, ◌*◌, ◌<◌, ◌≤◌, List, [], length, slice_index_or}
use Rattle.std.specs.declared.alloc.Global.{Global}
use Rattle.atomic_table.specs.declared.owned.Closed.{Closed}
use Rattle.atomic_table.specs.declared.shared.Seat.{Seat}
use Rattle.pic_tile.specs.Directions.{directions}
use Rattle.pic_tile.specs.Tile.{TileValue, tile_in}
use Rattle.pic_yard.specs.declared.view.View.{View}
use Rattle.pic_yard.specs.declared.yard.Yard.{Yard}
use Rattle.pic_yard.specs.Contents.{Slot}
use Rattle.pic_yard.specs.Laying.{AreLaid, LiesHome}
use Rattle.pic_yard.specs.Seats.{IsNewSeat}
use Rattle.pic_yard.specs.Steps.{ahead}
use Rattle.pic_yard.specs.Unloading.{IsOut, slots_in}

-- slots are laid for the first n of some tiles, which are taken out of their list
pub record IsLaying (tiles left : List TileValue) (n : ℕ) (slots : List Slot) : Type 0 where
  pub laid : AreLaid tiles n slots
  pub long : length left ≡ length tiles
  pub rest : (t : ℕ) → n ≤ t → tile_in left t ≡ tile_in tiles t

-- the first k of n seats are made; the first of them is still to make the others
pub record AreMade (yard : Yard) (n k : ℕ) (seats : List (Seat Slot View)) : Type 0 where
  pub count : length seats ≡ k
  pub some : 0 < k
  pub first : (seat : Seat Slot View)
      → IsNewSeat yard 0 (ahead k (n - k)) (slice_index_or seats 0 seat)
  pub others : (i : ℕ) (seat : Seat Slot View) → 0 < i → i < k
      → IsNewSeat yard i [] (slice_index_or seats i seat)

-- the first n tiles are taken out of their home slots, into a list
pub record IsUnloading (n : ℕ) (old new : Closed Slot Global)
    (before after : List TileValue) : Type 0 where
  pub out : IsOut (n * suc directions) old new
  pub long : length after ≡ length before
  pub tiles : (t : ℕ) → t < n → LiesHome after (slots_in old) t
