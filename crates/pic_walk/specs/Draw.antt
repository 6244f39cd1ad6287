-- Particles that are drawn at random: the limits of the generator and of the velocities, and the walk
-- of them.
use Rattle.std.specs.Prelude.{ℕ, pos, ◌<◌, ◌≤◌, List, codes, slice_index, Ok}
use Rattle.toml.specs.Data.{Members}
use Rattle.pic_num.specs.declared.axis.Axis.{Axis}
use Rattle.pic_num.specs.Sizes.{IsAtMost}
use Rattle.pic_num.specs.Space.{spot, along}
use Rattle.pic_walk.specs.Bounds.{most_seed, fastest_drift, widest_spread}
use Rattle.pic_walk.specs.declared.draw.Draw.{Draw}
use Rattle.pic_walk.specs.declared.limits.Limits.{Limits}
use Rattle.pic_walk.specs.Limits.{from_to, either_way, thrice}
use Rattle.pic_walk.specs.Walk.{Walked, ◌>>=◌, whole, numbers, three, need}

-- a generator's seed and stream
abbrev pub seed_limits : Limits
seed_limits = from_to (pos 0) (pos most_seed)

-- the mean velocity on an axis
abbrev pub drift_limits : ℕ → List Limits
drift_limits side = thrice (either_way (fastest_drift side))

-- how widely the velocities are spread on an axis
abbrev pub spread_limits : ℕ → List Limits
spread_limits side = thrice (from_to (pos 0) (pos (widest_spread side)))

-- the numbers of a draw are within their limits
pub record IsDraw (side : ℕ) (d : Draw) : Type 0 where
  pub seed : d.seed ≤ most_seed
  pub stream : d.stream ≤ most_seed
  pub drift : (a : Axis) → IsAtMost (along a (spot d.drift)) (fastest_drift side)
  pub spread : (k : ℕ) → k < 3 → slice_index d.spread k ≤ widest_spread side

-- the keys of a draw in the table at a path
unfoldable pub draw : ℕ → List ℕ → Members → Walked Draw
draw side path t =
    need (whole seed_limits) (codes "seed") path t
    >>= (λ seed. need (whole seed_limits) (codes "stream") path t
    >>= (λ stream. need (numbers (drift_limits side)) (codes "drift") path t
    >>= (λ drift. need (three (spread_limits side)) (codes "spread") path t
    >>= (λ spread. Ok (record { seed = seed; stream = stream; drift = drift; spread = spread })))))
