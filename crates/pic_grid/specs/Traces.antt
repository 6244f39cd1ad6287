-- The flux of a push at the edges of the unbounded lattice, before edges wrap to one edge of the
-- periodic grid (J. Villasenor and O. Buneman, Comput. Phys. Commun. 69, 1992, 306).
use Rattle.std.specs.Prelude.{ℕ, suc, ℤ, pos, negsuc, ◌<ℤ◌, ◌⊎◌, List, Result, Ok, Err}
use Rattle.pic_num.specs.declared.motion.Kind.{Kind}
use Rattle.pic_num.specs.declared.motion.Particle.{Particle}
use Rattle.pic_num.specs.declared.axis.Axis.{Axis}
use Rattle.pic_num.specs.Limits.{most_particles, most_flux_of}
use Rattle.pic_num.specs.Push.{Shift, Halting}
use Rattle.pic_num.specs.Sizes.{IsAtMost}
use Rattle.pic_num.specs.Space.{Spot, triple, unwrapped}
use Rattle.pic_grid.specs.Flux.{path_flux}
use Rattle.pic_grid.specs.Path.{path}
use Rattle.pic_grid.specs.PushPhase.{Surroundings, kind_of, push_of}
use Rattle.pic_grid.specs.Sums.{sum_over}

-- the flux of one particle after its push: that of its path, or 0 where it halts
unfoldable pub trace_of : ℕ → List Kind → Particle → Result Shift Halting → Axis → Spot → ℤ
trace_of side kinds particle (Ok s) a c =
    path_flux side (kind_of kinds particle).charge (path side (unwrapped (triple particle.x)) s.d) a c
trace_of side kinds particle (Err h) a c = pos 0

-- the flux of all particles
unfoldable pub traces : Surroundings → List Particle → Axis → Spot → ℤ
traces w particles a c =
    sum_over (λ particle. trace_of w.side w.kinds particle (push_of w particle) a c) particles

-- a coordinate that no path from the box reaches: below the layer under the grid, or above the
-- second layer over it
abbrev pub IsBeyond : ℕ → ℤ → Type 0
IsBeyond n j = (j <ℤ negsuc 0) ⊎ (pos (suc n) <ℤ j)

-- the most that the flux of all particles can be at an edge, in twelfths of a charge times a cubic
-- sub-cell: below 2^83
abbrev pub most_flux : ℕ
most_flux = most_flux_of most_particles

-- a flux is at most so large at every edge
pub record IsFluxAtMost (most : ℕ) (f : Axis → Spot → ℤ) : Type 0 where
  pub at_most : (a : Axis) (c : Spot) → IsAtMost (f a c) most
