-- What surrounds the particles of all tiles in their push, and is only read.
use Rattle.std.specs.Prelude.{◌≡◌, ◌≤◌, List, length}
use Rattle.std.specs.List.{All}
use Rattle.pic_num.specs.declared.motion.Kind.{Kind}
use Rattle.pic_num.specs.Limits.{most_force, most_species}
use Rattle.pic_block.specs.Cells.{Grid}
use Rattle.pic_grid.specs.Felt.{felt}
use Rattle.pic_grid.specs.Lattice.{Field, EachAtMost}
use Rattle.pic_grid.specs.PushPhase.{Surroundings}
use Rattle.pic_grid.specs.Species.{IsKind}
use Rattle.pic_tile.specs.Tiling.{Tiling, grid_of_tiling}

-- the species of a run, within the limits
pub record AreKinds (kinds : List Kind) : Type 0 where
  pub few : length kinds ≤ most_species
  pub limits : All IsKind kinds

-- the cells and their tiles, the species, and the force values of E and B
pub record FrameValue : Type 0 where
  pub cells : Grid
  pub map : Tiling
  pub kinds : List Kind
  pub force_e : Field
  pub force_b : Field

-- a lattice of force values on these cells
pub record IsForceField (cells : Grid) (force : Field) : Type 0 where
  pub cells_are : force.cells ≡ cells.n
  pub side : force.side ≡ cells.side
  pub small : EachAtMost most_force force

-- what the type of a frame keeps: the tiles are those of its cells, and so are the lattices, which
-- have the same parts; no force value passes its bound
pub record IsPushFrame (f : FrameValue) : Type 0 where
  pub map_is : grid_of_tiling f.map ≡ f.cells
  pub kinds_are : AreKinds f.kinds
  pub e : IsForceField f.cells f.force_e
  pub b : IsForceField f.cells f.force_b
  pub parts : f.force_b.parts ≡ f.force_e.parts

-- what surrounds a particle there
abbrev pub felt_in : FrameValue → Surroundings
felt_in f = felt f.kinds f.force_e f.force_b
