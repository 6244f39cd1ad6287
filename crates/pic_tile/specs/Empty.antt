-- A tile without particles, flux or stop, and how it is filled with its parcels.
use Rattle.std.specs.Prelude.{◌≡◌, ℕ, pos, ◌*◌, ◌<◌, ◌≤◌, List, [], length, replicate, Some, None}
use Rattle.pic_num.specs.Space.{Triple, Spot}
use Rattle.pic_block.specs.Block.{BlockValues}
use Rattle.pic_block.specs.Cells.{count_of}
use Rattle.pic_tile.specs.declared.parcel.Parcel.{Parcel}
use Rattle.pic_tile.specs.Directions.{directions}
use Rattle.pic_tile.specs.Layers.{layers_from, layers_size, lowest_cell}
use Rattle.pic_tile.specs.Tile.{TileValue, parcel_at, tile_in}
use Rattle.pic_tile.specs.Tiling.{Tiling}

-- a block of zeros
abbrev pub zero_block : Spot → Triple → BlockValues
zero_block low size = record {
  low = low;
  size = size;
  values = replicate (3 * count_of size) (pos 0);
}

-- the empty parcel of a direction, for a tile of n layers whose lowest cell is low
abbrev pub empty_parcel : Triple → Spot → ℕ → Parcel
empty_parcel n low d =
    record {
      dir = d;
      chain = [];
      flux = zero_block (layers_from n low d) (layers_size n d);
      stop = None;
    }

-- a tile with the empty parcels of the directions below until, and no other
pub record HasEmpty (n : Triple) (low : Spot) (until : ℕ) (t : TileValue) : Type 0 where
  pub there : (d : ℕ) → d < until → parcel_at t d ≡ Some (empty_parcel n low d)
  pub bare : (d : ℕ) → until ≤ d → parcel_at t d ≡ None

-- the first tiles of a map, so many, all empty
pub record AreEmpty (m : Tiling) (until : ℕ) (tiles : List TileValue) : Type 0 where
  pub count : length tiles ≡ until
  pub numbers : (i : ℕ) → i < until → (tile_in tiles i).number ≡ i
  pub empty : (i : ℕ) → i < until → HasEmpty m.size (lowest_cell m i) directions (tile_in tiles i)
