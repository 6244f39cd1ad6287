-- Particles at the sites of a lattice: their limits, and the walk of them.
use Rattle.std.specs.Prelude.{ℕ, pos, ◌*◌, ◌<◌, ◌≤◌, List, [], ◌∷◌, codes, slice_index, Ok}
use Rattle.toml.specs.Data.{Members}
use Rattle.pic_num.specs.declared.axis.Axis.{Axis}
use Rattle.pic_num.specs.Sizes.{IsAtMost}
use Rattle.pic_num.specs.Limits.{allowance_of}
use Rattle.pic_num.specs.Space.{triple, spot, along}
use Rattle.pic_block.specs.Cells.{Grid}
use Rattle.pic_grid.specs.Hat.{IsInBox}
use Rattle.pic_walk.specs.Bounds.{fastest, widest_gap}
use Rattle.pic_walk.specs.declared.limits.Limits.{Limits}
use Rattle.pic_walk.specs.declared.sites.Sites.{Sites}
use Rattle.pic_walk.specs.Terms.{TermsView}
use Rattle.pic_walk.specs.Limits.{from_to, below, thrice}
use Rattle.pic_walk.specs.Points.{speed_limits}
use Rattle.pic_walk.specs.Walk.{Walked, ◌>>=◌, numbers, three, need}

-- a position in the box of a grid
abbrev pub place_limits : Grid → List Limits
place_limits g = below (g.n.x * g.side) ∷ below (g.n.y * g.side) ∷ below (g.n.z * g.side) ∷ []

-- the way from a site to the next one
abbrev pub gap_limits : TermsView → List Limits
gap_limits t = thrice (from_to (pos 0) (pos (widest_gap t.version t.grid.side)))

-- the sites of an axis
abbrev pub count_limits : ℕ → List Limits
count_limits version = thrice (from_to (pos 1) (pos (allowance_of version).particles))

-- the numbers of a lattice of sites are within their limits
pub record AreSites (t : TermsView) (s : Sites) : Type 0 where
  pub first : IsInBox t.grid.side t.grid.n (triple s.first)
  pub gap : (k : ℕ) → k < 3 → slice_index s.gap k ≤ widest_gap t.version t.grid.side
  pub some : (k : ℕ) → k < 3 → 1 ≤ slice_index s.count k
  pub few : (k : ℕ) → k < 3 → slice_index s.count k ≤ (allowance_of t.version).particles
  pub speed : (a : Axis) → IsAtMost (along a (spot s.v)) (fastest t.grid.side)

-- the keys of a lattice of sites in the table at a path
unfoldable pub sites : TermsView → List ℕ → Members → Walked Sites
sites t path ms =
    need (three (place_limits t.grid)) (codes "first") path ms
    >>= (λ first. need (three (gap_limits t)) (codes "gap") path ms
    >>= (λ gap. need (three (count_limits t.version)) (codes "count") path ms
    >>= (λ count. need (numbers (thrice (speed_limits t.grid.side))) (codes "v") path ms
    >>= (λ v. Ok (record { first = first; gap = gap; count = count; v = v })))))
