-- The lattices of a current.
use Rattle.std.specs.Prelude.{◌≡◌}
use Rattle.pic_num.specs.Space.{Triple}
use Rattle.pic_grid.specs.Lattice.{Field}

-- a lattice has these cells, cut into these parts
pub record LiesOn (n tiles : Triple) (f : Field) : Type 0 where
  pub cells : f.cells ≡ n
  pub parts : f.parts ≡ tiles
