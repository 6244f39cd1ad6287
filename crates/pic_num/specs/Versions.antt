-- What a version of decks and dumps allows of a grid: this project's profile.
use Rattle.std.specs.Prelude.{◌≡◌, ℕ, ◌^◌, ◌≤◌}
use Rattle.pic_num.specs.Limits.{most_version, allowance_of}
use Rattle.pic_num.specs.Space.{Triple}
use Rattle.pic_num.specs.Sub.{bits_of}

-- a version that is accepted
pub record IsVersion (version : ℕ) : Type 0 where
  pub least : 1 ≤ version
  pub most : version ≤ most_version

-- a side that a version allows: a power of two, no lower and no higher than its allowance has
pub record IsSideOf (version side : ℕ) : Type 0 where
  pub power : side ≡ 2 ^ bits_of side
  pub least : (allowance_of version).least_bits ≤ bits_of side
  pub most : bits_of side ≤ (allowance_of version).greatest_bits

-- a grid of n cells that a version allows: no more of them on an axis, and of such a side
pub record IsGridOf (version : ℕ) (n : Triple) (side : ℕ) : Type 0 where
  pub x : n.x ≤ (allowance_of version).cells
  pub y : n.y ≤ (allowance_of version).cells
  pub z : n.z ≤ (allowance_of version).cells
  pub sides : IsSideOf version side
