-- The charge of the particles at the nodes, by linear weights (first order, "cloud in cell": Birdsall
-- and Langdon, "Plasma Physics via Computer Simulation"). All charges are taken 12 times, so that
-- the flux of a straight segment is a whole number too: this project's profile.
use Rattle.std.specs.Prelude.{ℤ, pos, ℕ, ◌*◌, ◌*ℤ◌, List}
use Rattle.pic_num.specs.declared.motion.Particle.{Particle}
use Rattle.pic_num.specs.declared.motion.Kind.{Kind}
use Rattle.pic_num.specs.Limits.{most_charge, most_particles, most_side}
use Rattle.pic_num.specs.Sizes.{IsAtMost}
use Rattle.pic_num.specs.Space.{Triple, triple}
use Rattle.pic_grid.specs.Hat.{weight}
use Rattle.pic_grid.specs.PushPhase.{kind_of}
use Rattle.pic_grid.specs.Sums.{sum_over}
use Rattle.pic_filter.specs.Smoothing.{filtered}

-- what a particle adds to a node: 12 times its charge times its weight for the node
unfoldable pub share : ℕ → Triple → List Kind → Particle → Triple → ℤ
share side n kinds particle node =
    pos 12 *ℤ (kind_of kinds particle).charge *ℤ pos (weight side n (triple particle.x) node)

-- a species whose charge is within its limit
abbrev pub IsCharged : Kind → Type 0
IsCharged k = IsAtMost k.charge most_charge

-- the charge of a node: what all particles add to it
unfoldable pub charge_of : ℕ → Triple → List Kind → List Particle → Triple → ℤ
charge_of side n kinds particles node = sum_over (λ particle. share side n kinds particle node) particles

-- the charge that E is held against: that of the node, or its filtered sum where the current is filtered
-- too (then all is 64 times as much)
unfoldable pub rho_of : ℕ → ℕ → Triple → List Kind → List Particle → Triple → ℤ
rho_of side filter n kinds particles = filtered filter n (charge_of side n kinds particles)

-- how large it can be: below 2^83
abbrev pub most_node_charge : ℕ
most_node_charge = most_particles * (12 * most_charge * (most_side * most_side * most_side))
