-- Ways that charges have gone before a run begins, and the current that they were: the flux of the path
-- of each (J. Villasenor and O. Buneman, Comput. Phys. Commun. 69, 1992, 306).
use Rattle.std.specs.Prelude.{◌≡◌, ⊤, ℤ, pos, ℕ, ◌<◌, ◌-ℤ◌, List, map, Option, Some, None}
use Rattle.std.specs.List.{All}
use Rattle.pic_num.specs.declared.axis.Axis.{Axis}
use Rattle.pic_num.specs.declared.motion.Kind.{Kind}
use Rattle.pic_num.specs.declared.motion.Particle.{Particle}
use Rattle.pic_num.specs.Limits.{most_charge}
use Rattle.pic_num.specs.Push.{plus}
use Rattle.pic_num.specs.Sizes.{IsAtMost}
use Rattle.pic_num.specs.Space.{Triple, Spot, triple, spot, unwrapped, AreAtMost}
use Rattle.pic_block.specs.Cells.{IsWithin}
use Rattle.pic_grid.specs.Current.{wrapped}
use Rattle.pic_grid.specs.Differences.{div_e}
use Rattle.pic_grid.specs.Flux.{path_flux}
use Rattle.pic_grid.specs.Hat.{HasTwo, IsInBox}
use Rattle.pic_grid.specs.Path.{path}
use Rattle.pic_grid.specs.PushPhase.{kind_of}
use Rattle.pic_grid.specs.Sums.{sum_over}
use Rattle.pic_filter.specs.Smoothing.{filtered}
use Rattle.pic_charge.specs.Charge.{rho_of}
use Rattle.pic_split.specs.Move.{wrapped_point}
use Rattle.pic_ways.specs.declared.way.Way.{Way}

-- a way begins in the box, goes at most the side of a cell far on each axis, and its charge is within the
-- limits
pub record IsWay (side : ℕ) (n : Triple) (w : Way) : Type 0 where
  pub from : IsInBox side n (triple w.from)
  pub by : AreAtMost (spot w.by) side
  pub charge : IsAtMost w.charge most_charge

-- where it ends, wrapped into the box
abbrev pub end_of : ℕ → Triple → Way → Triple
end_of side n w = wrapped_point side n (plus (unwrapped (triple w.from)) (spot w.by))

-- the flux of a way's path through an edge, which isn't wrapped; 0 where there is no way
unfoldable pub way_flux : ℕ → Option Way → Axis → Spot → ℤ
way_flux side None a c = pos 0
way_flux side (Some w) a c = path_flux side w.charge (path side (unwrapped (triple w.from)) (spot w.by)) a c

-- the flux of the ways of some
unfoldable pub flux_of_ways : {A : Type 0} → ℕ → (A → Option Way) → List A → Axis → Spot → ℤ
flux_of_ways side way xs a c = sum_over (λ x. way_flux side (way x) a c) xs

-- their current at the edges of the periodic grid
unfoldable pub current_of_ways : {A : Type 0} → ℕ → Triple → (A → Option Way) → List A → Axis → Triple → ℤ
current_of_ways side n way xs a p = sum_over (λ x. wrapped n (way_flux side (way x) a) p) xs

-- a particle, back at the beginning of its way
abbrev pub at_start : Particle → Option Way → Particle
at_start x None = x
at_start x (Some w) = record x { x = w.from }

-- a particle has come by a way: it has the way's charge, and stands at its end
pub record HasComeBy (side : ℕ) (n : Triple) (kinds : List Kind) (x : Particle) (w : Way) : Type 0 where
  pub way : IsWay side n w
  pub charge : w.charge ≡ (kind_of kinds x).charge
  pub place : triple x.x ≡ end_of side n w

-- a particle has come by its way, if it has one
abbrev pub HasCome : ℕ → Triple → List Kind → Particle → Option Way → Type 0
HasCome side n kinds x None = ⊤
HasCome side n kinds x (Some w) = HasComeBy side n kinds x w

-- a way is within the limits, if there is one
abbrev pub IsWithinLimits : ℕ → Triple → Option Way → Type 0
IsWithinLimits side n None = ⊤
IsWithinLimits side n (Some w) = IsWay side n w

-- Where E meets Gauss's law for particles at the beginnings of their ways, E less the filtered current of the
-- ways meets it for the particles at the ends.
abbrev pub WaysKeepGauss : Type 0
WaysKeepGauss =
    (side filter : ℕ) (n : Triple) (kinds : List Kind) (way : Particle → Option Way) (particles : List Particle)
    → (e : Axis → Triple → ℤ) (node : Triple)
    → 0 < side
    → HasTwo n
    → IsWithin node n
    → All (λ x. HasCome side n kinds x (way x)) particles
    → div_e n e node ≡ rho_of side filter n kinds (map (λ x. at_start x (way x)) particles) node
    → div_e n (λ a p. e a p -ℤ filtered filter n (current_of_ways side n way particles a) p) node
    ≡ rho_of side filter n kinds particles node
