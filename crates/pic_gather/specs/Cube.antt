-- The cube of a cell's side, over which a sum under three pairs of weights is rounded.
use Rattle.std.specs.Prelude.{◌≡◌, ℕ, pos, ◌-◌, ◌*◌, ◌^◌, ◌≤◌}
use Rattle.pic_num.specs.Limits.{most_bits}
use Rattle.pic_gather.specs.declared.cube.Cube.{Cube}

-- a power of two, none of a longer side than a cell can have, and half of it
pub record IsCube (c : Cube) : Type 0 where
  pub least : 1 ≤ c.bits
  pub most : c.bits ≤ 3 * most_bits
  pub half : c.half ≡ pos (2 ^ (c.bits - 1))

-- the cube of that side
pub record IsCubeOf (side : ℕ) (c : Cube) : Type 0 where
  pub shape : IsCube c
  pub cube : 2 ^ c.bits ≡ side ^ 3
