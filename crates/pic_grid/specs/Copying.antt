-- Values of a lattice, copied row by row into blocks.
use Rattle.std.specs.Prelude.{◌≡◌, ℕ, ℤ, pos, ◌+◌, ◌<◌, List, length, slice_index_or}
use Rattle.pic_num.specs.declared.axis.Axis.{Axis}
use Rattle.pic_num.specs.Space.{Triple}
use Rattle.pic_block.specs.Block.{BlockValues, IsAmongCells, IsShaped, inner_at, outer_of, no_block}
use Rattle.pic_block.specs.Cells.{IsWithin, place_of}
use Rattle.pic_grid.specs.Lattice.{Field, value_at}

-- the first numbers of a row are the components of a lattice on an axis from the cell p on
pub record IsRunOf (f : Field) (a : Axis) (p : Triple) (count : ℕ) (row : List ℤ) : Type 0 where
  pub values : (i : ℕ) → i < count
      → slice_index_or row i (pos 0) ≡ value_at f a (record p { x = p.x + i })

-- the values of so many layers are those of a lattice from the cell low on
pub record AreValuesOf (f : Field) (low size : Triple) (values : List ℤ) : Type 0 where
  pub at : (a : Axis) (p : Triple) → IsWithin p size
      → slice_index_or values (place_of size a p) (pos 0)
      ≡ value_at f a (record { x = low.x + p.x; y = low.y + p.y; z = low.z + p.z })

-- a block keeps its zone, and has the values of a lattice there
pub record IsCopied (f : Field) (old new : BlockValues) : Type 0 where
  pub shaped : IsShaped new old
  pub values : (a : Axis) (p : Triple) → IsWithin p old.size
      → inner_at new a p ≡ value_at f a (outer_of old.low p)

-- the zones of blocks lie among n cells,
pub record AreAmong (n : Triple) (blocks : List BlockValues) : Type 0 where
  pub each : (i : ℕ) → i < length blocks
      → (let b = slice_index_or blocks i no_block in IsAmongCells b.low b.size n)

-- and each block is given the values of a lattice there
pub record AreCopied (f : Field) (old new : List BlockValues) : Type 0 where
  pub long : length new ≡ length old
  pub each : (i : ℕ) → i < length old
      → IsCopied f (slice_index_or old i no_block) (slice_index_or new i no_block)
