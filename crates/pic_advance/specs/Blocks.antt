-- A field phase in a row of blocks: what becomes of each, and the stop of all. Blocks are advanced
-- each for itself, in any order or at the same time; the stop is the least of theirs.
use Rattle.std.specs.Prelude.{◌≡◌, ℕ, zero, suc, ℤ, ◌+◌, ◌*◌, ◌^◌, ◌<◌, List, length, slice_index_or, nat_lt, if◌then◌else◌, Option, Some, None}
use Rattle.pic_num.specs.declared.axis.Axis.{Axis}
use Rattle.pic_num.specs.Limits.{most_value}
use Rattle.pic_num.specs.Multiplier.{Multiplier}
use Rattle.pic_num.specs.Space.{Triple, triple, axis_number}
use Rattle.pic_block.specs.Block.{BlockValues, IsAmongCells, IsShaped, AllAtMost, inner_at, outer_of, no_block}
use Rattle.pic_block.specs.Cells.{IsWithin}
use Rattle.pic_grid.specs.declared.stop.Phase.{Phase}
use Rattle.pic_grid.specs.declared.stop.Stop.{Stop}
use Rattle.pic_grid.specs.declared.stop.Stop.TheVariants.{Push, Field as field_stop}
use Rattle.pic_field.specs.FieldPhases.{lowest, least_fault}

-- the block at an index of a row
abbrev pub block_in : List BlockValues → ℕ → BlockValues
block_in blocks i = slice_index_or blocks i no_block

-- each block is, as R says, what became of the one of its place
pub record EachBlock (R : BlockValues → BlockValues → Type 0)
    (old new : List BlockValues) : Type 0 where
  pub long : length new ≡ length old
  pub each : (i : ℕ) → i < length old → R (block_in old i) (block_in new i)

-- the zone of a block lies among n cells,
pub record IsAmong (n : Triple) (b : BlockValues) : Type 0 where
  pub among : IsAmongCells b.low b.size n

-- and its values are at most 2^90 in size: what a field phase requires of it
pub record CanAdvance (n : Triple) (b : BlockValues) : Type 0 where
  pub among : IsAmongCells b.low b.size n
  pub small : AllAtMost most_value b

-- the number of a place in the order of all cells that three numbers below 2^32 name: the axis
-- first, then z, then y, then x
abbrev pub number_of : Axis → Triple → ℕ
number_of a p = ((axis_number a * 2 ^ 32 + p.z) * 2 ^ 32 + p.y) * 2 ^ 32 + p.x

-- that of the place that a stop of a field phase names
unfoldable pub place_number : Stop → ℕ
place_number (field_stop phase bound axis cell value) = number_of axis (triple cell)
place_number (Push id what axis value) = 0

-- of two stops that of the lesser place
unfoldable pub earlier : Option Stop → Option Stop → Option Stop
earlier None b = b
earlier (Some a) None = Some a
earlier (Some a) (Some b) = if nat_lt (place_number b) (place_number a) then Some b else Some a

-- of so many stops that of the least place
unfoldable pub earliest : (ℕ → Option Stop) → ℕ → Option Stop
earliest stops zero = None
earliest stops (suc i) = earlier (earliest stops i) (stops i)

-- the stop of a block with the new values g, by axis and cell of the grid,
abbrev pub block_stop : Phase → Multiplier → (Axis → Triple → ℤ) → BlockValues → Option Stop
block_stop phase by g b = least_fault phase by (lowest b.low) b.size g

-- and that of a row of blocks: the least of theirs, where the block at i has the new values g i
abbrev pub row_stop : Phase → Multiplier → (ℕ → Axis → Triple → ℤ) → List BlockValues → Option Stop
row_stop phase by g blocks =
    earliest (λ i. block_stop phase by (g i) (block_in blocks i)) (length blocks)

-- a block has the new values that g gives, by axis and cell of the grid
pub record IsMade (g : Axis → Triple → ℤ) (old new : BlockValues) : Type 0 where
  pub shaped : IsShaped new old
  pub values : (a : Axis) (p : Triple) → IsWithin p old.size
      → inner_at new a p ≡ g a (outer_of old.low p)
