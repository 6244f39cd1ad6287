-- The flux through the twelve edges of a cell, held as values.
use Rattle.std.specs.Prelude.{ℕ, ℤ, pos, ◌^◌, ◌+ℤ◌, ◌*ℤ◌, ◌↔◌, Bool, true, IsTrue}
use Rattle.pic_num.specs.declared.axis.Axis.{Axis}
use Rattle.pic_num.specs.declared.axis.Axis.TheVariants.{X, Y, Z}
use Rattle.pic_num.specs.Sizes.{IsAtMost}
use Rattle.pic_num.specs.Space.{Triple, Spot, spot}
use Rattle.pic_block.specs.Among.{IsOneOf}
use Rattle.pic_block.specs.Fours.{AreSmall}
use Rattle.pic_block.specs.declared.fours.Four.{Four}
use Rattle.pic_block.specs.declared.fours.Found.{Found}
use Rattle.pic_flux.specs.declared.edges.Layers.{Layers}
use Rattle.pic_flux.specs.declared.cell_flux.CellFlux.{CellFlux}
use Rattle.pic_flux.specs.Corners.{at_corners, both}

-- what is carried times the weight of each at the four edges along axis round a cell, and 0 at
-- every other edge
abbrev pub at_four : Axis → Spot → Four → Axis → Spot → ℤ
at_four axis c f =
    at_corners axis c (f.by *ℤ f.low_low) (f.by *ℤ f.high_low) (f.by *ℤ f.low_high)
    (f.by *ℤ f.high_high)

-- the cell
abbrev pub flux_cell : CellFlux → Spot
flux_cell f = spot f.cell

-- what the flux through the twelve edges of a cell gives to each edge: 0 to all others
abbrev pub edge_flux : CellFlux → Axis → Spot → ℤ
edge_flux f a c =
    let cell = spot f.cell in
    both (both (at_four X cell f.x) (at_four Y cell f.y)) (at_four Z cell f.z) a c

-- where flux is added to a block, its components are at most 2^100 in size
abbrev pub most_before_flux : ℕ
most_before_flux = 2 ^ 100

-- what is carried, all twelve weights and the indices of the cell are of a size that sums have room
-- for
pub record IsModest (f : CellFlux) : Type 0 where
  pub at_x : IsAtMost (spot f.cell).x (2 ^ 24)
  pub at_y : IsAtMost (spot f.cell).y (2 ^ 24)
  pub at_z : IsAtMost (spot f.cell).z (2 ^ 24)
  pub x : AreSmall f.x
  pub y : AreSmall f.y
  pub z : AreSmall f.z

-- three tests hold
pub record AreTrue (a b c : Bool) : Type 0 where
  pub first : IsTrue a
  pub second : IsTrue b
  pub third : IsTrue c

-- which layers of a cell a zone has: the cell's own, and the next ones up
pub record AreLayers (low : Spot) (size : Triple) (c : Spot) (l : Layers) : Type 0 where
  pub at_x : IsTrue l.x ↔ IsOneOf low.x size.x c.x
  pub at_y : IsTrue l.y ↔ IsOneOf low.y size.y c.y
  pub at_z : IsTrue l.z ↔ IsOneOf low.z size.z c.z
  pub over_x : IsTrue l.up_x ↔ IsOneOf low.x size.x (c.x +ℤ pos 1)
  pub over_y : IsTrue l.up_y ↔ IsOneOf low.y size.y (c.y +ℤ pos 1)
  pub over_z : IsTrue l.up_z ↔ IsOneOf low.z size.z (c.z +ℤ pos 1)

-- all four edges along an axis round a cell
abbrev pub all_four : Found
all_four = record { low_low = true; high_low = true; low_high = true; high_high = true }
