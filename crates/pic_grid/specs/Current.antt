-- The current of a push phase at the edges of the periodic grid: the flux of every particle's path
-- (J. Villasenor and O. Buneman, Comput. Phys. Commun. 69, 1992, 306).
use Rattle.std.specs.Prelude.{ℤ, pos, ℕ, ◌+ℤ◌, ◌-ℤ◌, List, Result, Ok, Err}
use Rattle.pic_num.specs.declared.axis.Axis.{Axis}
use Rattle.pic_num.specs.declared.motion.Particle.{Particle}
use Rattle.pic_num.specs.declared.motion.Kind.{Kind}
use Rattle.pic_num.specs.Push.{Shift, Halting}
use Rattle.pic_num.specs.Space.{Triple, Spot, triple, unwrapped}
use Rattle.pic_grid.specs.Flux.{path_flux}
use Rattle.pic_grid.specs.Path.{path}
use Rattle.pic_grid.specs.PushPhase.{Surroundings, kind_of, push_of}
use Rattle.pic_grid.specs.Sums.{sum_over}

-- the sum of f over the images of an index on an axis of n cells: itself, and one box down and up
unfoldable pub sum_images : ℕ → (ℤ → ℤ) → ℕ → ℤ
sum_images n f i = f (pos i -ℤ pos n) +ℤ f (pos i) +ℤ f (pos i +ℤ pos n)

-- the sum of f over the edges that wrap to the edge at p. Three images an axis are all that a path
-- from a point of the box can touch, since it leaves the box by at most one cell.
unfoldable pub wrapped : Triple → (Spot → ℤ) → Triple → ℤ
wrapped n f p =
    sum_images n.z
    (λ z. sum_images n.y (λ y. sum_images n.x (λ x. f (record { x = x; y = y; z = z })) p.x) p.y) p.z

-- the current of one particle after its push: that of its path, or 0 where it halts
unfoldable pub flux_after : ℕ → Triple → List Kind → Particle → Axis → Triple → Result Shift Halting → ℤ
flux_after side n kinds particle a p (Ok s) =
    wrapped n (path_flux side (kind_of kinds particle).charge (path side (unwrapped (triple particle.x)) s.d) a) p
flux_after side n kinds particle a p (Err h) = pos 0

-- the current of all particles, at the edge along the axis a of the cell p
unfoldable pub current : Surroundings → List Particle → Axis → Triple → ℤ
current w particles a p = sum_over (λ particle. flux_after w.side w.cells w.kinds particle a p (push_of w particle)) particles
