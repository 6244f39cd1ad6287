-- Rows of a block: the places of one component whose cells differ in x alone stand side by side.
use Rattle.std.specs.Prelude.{ℕ, ℤ, pos, ◌+◌, ◌*◌, ◌/◌, ◌+ℤ◌, List, ◌++◌, take, drop}
use Rattle.pic_num.specs.declared.axis.Axis.{Axis}
use Rattle.pic_num.specs.declared.axis.Axis.TheVariants.{X, Y, Z}
use Rattle.pic_num.specs.Space.{Triple, Spot}
use Rattle.pic_block.specs.Cells.{place_of}
use Rattle.pic_block.specs.Block.{BlockValues}

-- the number of the first place of the row on an axis at the layers y and z
abbrev pub row_of : Triple → Axis → ℕ → ℕ → ℕ
row_of n a y z = place_of n a (record { x = 0; y = y; z = z })

-- the block with the values of that row changed
unfoldable pub with_row : BlockValues → Axis → ℕ → ℕ → List ℤ → BlockValues
with_row b a y z row =
    let start = row_of b.size a y z in
    record b { values = take start b.values ++ (row ++ drop (start + b.size.x) b.values) }

-- the first layer above the part, of s layers, in which the layer x lies
abbrev pub part_end : ℕ → ℕ → ℕ
part_end s x = (x / s + 1) * s

-- how far apart the numbers of two places are whose cells follow each other on an axis
abbrev pub step_of : Triple → Axis → ℕ
step_of n X = 1
step_of n Y = n.x
step_of n Z = n.x * n.y

-- the next cell up an axis, not wrapped
abbrev pub lifted : Axis → Spot → Spot
lifted X c = record c { x = c.x +ℤ pos 1 }
lifted Y c = record c { y = c.y +ℤ pos 1 }
lifted Z c = record c { z = c.z +ℤ pos 1 }
