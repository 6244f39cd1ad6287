-- Room for the charge that E is held against.
use Rattle.std.specs.Prelude.{◌≡◌, ℤ, ℕ, List, Option, IfSome, length}
use Rattle.pic_block.specs.Cells.{Grid, count_of}
use Rattle.pic_grid.specs.Lattice.{NodeValues}

-- whose nodes there is room for, and with which filter
pub record RoomView : Type 0 where
  pub grid : Grid
  pub filter : ℕ

-- nodes of these cells, a sum for each, and as many nodes again where there are more
pub record AreRooms (g : Grid) (charge : NodeValues) (sums : List ℤ) (smooth : Option NodeValues) : Type 0 where
  pub charge_cells : charge.cells ≡ g.n
  pub sums_long : length sums ≡ count_of g.n
  pub smooth_cells : IfSome smooth (λ s. s.cells ≡ g.n)
