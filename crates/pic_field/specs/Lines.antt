-- How a phase goes over a block: row by row, three rows to a line of cells in x, strip by strip of
-- lines and layer by layer. Places are counted from the block's lowest cell.
use Rattle.std.specs.Prelude.{◌≡◌, ℕ, ℤ, ◌<◌, ◌≤◌, ◌-ℤ◌, Bool}
use Rattle.pic_num.specs.declared.axis.Axis.{Axis}
use Rattle.pic_num.specs.Sizes.{IsAtMost}
use Rattle.pic_num.specs.Space.{Triple, Spot}
use Rattle.pic_block.specs.Cells.{IsWithin}
use Rattle.pic_block.specs.Block.{BlockValues, IsShaped, inner_at, outer_of}
use Rattle.pic_field.specs.Beside.{swept_layer, curl_beside}

-- a zone has a cell: at least one layer on each axis
pub record HasCells (size : Triple) : Type 0 where
  pub x : 0 < size.x
  pub y : 0 < size.y
  pub z : 0 < size.z

-- a place is one of the row on an axis at the layers y and z,
pub record OnRow (axis : Axis) (y z : ℕ) (a : Axis) (p : Triple) : Type 0 where
  pub axis_is : a ≡ axis
  pub y_is : p.y ≡ y
  pub z_is : p.z ≡ z

-- of the line there,
pub record OnLine (y z : ℕ) (a : Axis) (p : Triple) : Type 0 where
  pub y_is : p.y ≡ y
  pub z_is : p.z ≡ z

-- of a layer,
pub record OnLayer (z : ℕ) (a : Axis) (p : Triple) : Type 0 where
  pub z_is : p.z ≡ z

-- of the layers below it,
pub record BelowLayer (z : ℕ) (a : Axis) (p : Triple) : Type 0 where
  pub z_below : p.z < z

-- of the lines of its layer from one on and below another: those of a strip,
pub record OnLines (from to z : ℕ) (a : Axis) (p : Triple) : Type 0 where
  pub y_from : from ≤ p.y
  pub y_below : p.y < to
  pub z_is : p.z ≡ z

-- of the lines of a strip in any layer,
pub record OnStrip (from to : ℕ) (a : Axis) (p : Triple) : Type 0 where
  pub y_from : from ≤ p.y
  pub y_below : p.y < to

-- and in the first k layers to which a sweep comes, of count
pub record OnLayers (up : Bool) (from to count k : ℕ) (a : Axis) (p : Triple) : Type 0 where
  pub y_from : from ≤ p.y
  pub y_below : p.y < to
  pub z_before : swept_layer up count p.z < k

-- the places of P have new values, which g makes of their old ones; all others stay
pub record Changed (g : Axis → Triple → ℤ → ℤ) (P : Axis → Triple → Type 0)
    (old new : BlockValues) : Type 0 where
  pub shaped : IsShaped new old
  pub done : (a : Axis) (p : Triple) → IsWithin p old.size → P a p
      → inner_at new a p ≡ g a p (inner_at old a p)
  pub rest : (a : Axis) (p : Triple) → IsWithin p old.size → (P a p → ⊥)
      → inner_at new a p ≡ inner_at old a p

-- the values at the places of P are at most most in size
pub record AreSmall (most : ℕ) (P : Axis → Triple → Type 0) (b : BlockValues) : Type 0 where
  pub at_most : (a : Axis) (p : Triple) → IsWithin p b.size → P a p
      → IsAtMost (inner_at b a p) most

-- what a sweep makes of a value of the block whose lowest cell is low: it takes off the curl of g
abbrev pub swept : Bool → Triple → (Axis → Triple → ℤ) → Spot → Axis → Triple → ℤ → ℤ
swept up n g low a p v = v -ℤ curl_beside up n g a (outer_of low p)

-- the cell of the grid where the line at the layers y and z begins
abbrev pub line_start : Spot → ℕ → ℕ → Triple
line_start low y z = outer_of low (record { x = 0; y = y; z = z })
