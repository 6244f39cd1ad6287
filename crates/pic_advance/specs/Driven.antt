-- A step of E over blocks, each for itself. The current is a lattice of the same cells, cut as it may
-- be, or there is none.
use Rattle.std.specs.Prelude.{◌≡◌, ℤ, pos, ◌*◌, List, length, replicate, Option, Some, None, IfSome}
use Rattle.pic_num.specs.Limits.{most_value}
use Rattle.pic_num.specs.declared.axis.Axis.{Axis}
use Rattle.pic_num.specs.declared.mult.Scales.{Scales}
use Rattle.pic_num.specs.Space.{Triple}
use Rattle.pic_block.specs.Block.{BlockValues, IsAmongCells, IsShaped, AllAtMost}
use Rattle.pic_block.specs.Cells.{count_of}
use Rattle.pic_grid.specs.declared.stop.Stop.{Stop}
use Rattle.pic_grid.specs.Lattice.{Field, EachAtMost, value_at}
use Rattle.pic_field.specs.FieldPhases.{full_of, IsFullStep, stop_of_full, no_current, no_drive, most_raised}
use Rattle.pic_advance.specs.Blocks.{block_in, earliest}

-- the current of a lattice, or of none
abbrev pub current_in : Option Field → Axis → Triple → ℤ
current_in None = no_current
current_in (Some j) = value_at j

-- the values of a lattice of E after a step with the current j, by axis and cell
abbrev pub full_all : Scales → Field → (Axis → Triple → ℤ) → Field → Axis → Triple → ℤ
full_all scales b j e a p = full_of scales b no_drive a p (value_at e a p) (j a p)

-- a lattice can be the current on n cells
pub record IsCurrent (n : Triple) (j : Field) : Type 0 where
  pub cells : j.cells ≡ n
  pub small : EachAtMost most_value j

-- B and the current, if there is one, can drive blocks
pub record CanDrive (b : Field) (j : Option Field) : Type 0 where
  pub b_small : EachAtMost most_value b
  pub current : IfSome j (IsCurrent b.cells)

-- a block e of E that lies among n cells can be driven
pub record CanBeDriven (n : Triple) (e : BlockValues) : Type 0 where
  pub among : IsAmongCells e.low e.size n
  pub small : AllAtMost most_raised e

-- a block of zeros over the same zone
abbrev pub cleared : BlockValues → BlockValues
cleared j = record j { values = replicate (3 * count_of j.size) (pos 0) }

-- a block e, and f after its step with the current j
pub record IsDriven (scales : Scales) (b : Field) (j : Axis → Triple → ℤ) (e f : BlockValues) : Type 0
  where
    pub shaped : IsShaped f e
    pub values : IsFullStep scales b no_drive j e f

-- the stop of the step of some blocks: the least of theirs
abbrev pub driven_stop : Scales → Field → (Axis → Triple → ℤ) → List BlockValues → Option Stop
driven_stop scales b j es =
    earliest (λ i. stop_of_full scales b no_drive j (block_in es i)) (length es)
