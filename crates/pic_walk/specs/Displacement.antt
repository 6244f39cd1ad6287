-- A species that stands beside another one: how far its particles stand from those of the other, and their
-- velocity. Their limits, and the walk of them.
use Rattle.std.specs.Prelude.{ℕ, List, codes, Ok}
use Rattle.toml.specs.Data.{Members}
use Rattle.pic_num.specs.declared.axis.Axis.{Axis}
use Rattle.pic_num.specs.Sizes.{IsAtMost}
use Rattle.pic_num.specs.Space.{spot, along}
use Rattle.pic_walk.specs.Bounds.{fastest}
use Rattle.pic_walk.specs.declared.displacement.Displacement.{Displacement}
use Rattle.pic_walk.specs.declared.limits.Limits.{Limits}
use Rattle.pic_walk.specs.Limits.{either_way, thrice}
use Rattle.pic_walk.specs.Points.{speed_limits}
use Rattle.pic_walk.specs.Walk.{Walked, ◌>>=◌, numbers, need}

-- a way on each axis, a cell at most
abbrev pub way_limits : ℕ → List Limits
way_limits side = thrice (either_way side)

-- the numbers of a displacement are within their limits
pub record IsDisplacement (side : ℕ) (d : Displacement) : Type 0 where
  pub way : (a : Axis) → IsAtMost (along a (spot d.by)) side
  pub speed : (a : Axis) → IsAtMost (along a (spot d.v)) (fastest side)

-- the keys of a displacement in the table at a path
unfoldable pub displacement : ℕ → List ℕ → Members → Walked Displacement
displacement side path t =
    need (numbers (way_limits side)) (codes "by") path t
    >>= (λ by. need (numbers (thrice (speed_limits side))) (codes "v") path t
    >>= (λ v. Ok (record { by = by; v = v })))
