-- The energies of a state (Birdsall and Langdon, "Plasma Physics via Computer Simulation"), in whole
-- numbers and without the constant factors: this project's profile.
use Rattle.std.specs.Prelude.{ℤ, ℕ, ◌+◌, ◌*◌, ◌<◌, ◌≤◌, List, length, sum_by, unsigned_abs}
use Rattle.pic_num.specs.declared.motion.Kind.{Kind}
use Rattle.pic_num.specs.declared.motion.Particle.{Particle}
use Rattle.pic_num.specs.declared.mult.Scales.{Scales}
use Rattle.pic_num.specs.declared.axis.Axis.{Axis}
use Rattle.pic_num.specs.Limits.{most_mass, most_value, most_force}
use Rattle.pic_num.specs.Multiplier.{Multiplier}
use Rattle.pic_num.specs.Rounding.{scaled}
use Rattle.pic_num.specs.Sizes.{IsAtMost}
use Rattle.pic_num.specs.Space.{Triple, Spot, spot}
use Rattle.pic_block.specs.Cells.{IsWithin}
use Rattle.pic_grid.specs.Lattice.{Field, value_at}
use Rattle.pic_grid.specs.PushPhase.{kind_of}
use Rattle.pic_energy.specs.declared.amounts.Energies.{Energies}

-- the square of a number
unfoldable pub square_of : ℤ → ℕ
square_of v = unsigned_abs v * unsigned_abs v

-- the square of a velocity: the sum of the squares of its components
abbrev pub speed_square : Spot → ℕ
speed_square v = square_of v.x + square_of v.y + square_of v.z

-- the kinetic energy of a particle: its mass times the square of its velocity
unfoldable pub kinetic_of : List Kind → Particle → ℕ
kinetic_of kinds particle = (kind_of kinds particle).mass * speed_square (spot particle.v)

-- the kinetic energy of all particles
unfoldable pub kinetic_sum : List Kind → List Particle → ℕ
kinetic_sum kinds particles = sum_by (kinetic_of kinds) particles

-- the sum of the squares of the force values of a field's values
unfoldable pub square_sum : Multiplier → List ℤ → ℕ
square_sum by values = sum_by (λ v. square_of (scaled v by)) values

-- the energies of the fields E and B and the particles
unfoldable pub energies_of : Scales → List Kind → Field → Field → List Particle → Energies
energies_of scales kinds e b particles = record {
  kinetic = kinetic_sum kinds particles;
  electric = square_sum scales.e_force e.values;
  magnetic = square_sum scales.b_force b.values;
}

-- a mass within its limits
pub record HasMass (k : Kind) : Type 0 where
  pub least : 1 ≤ k.mass
  pub most : k.mass ≤ most_mass

-- a particle's species is one of the kinds
pub record IsOfKinds (kinds : List Kind) (particle : Particle) : Type 0 where
  pub species : particle.species < length kinds

-- each value of a field and each force value is within its limit
pub record IsBounded (by : Multiplier) (f : Field) : Type 0 where
  pub values : (a : Axis) (p : Triple) → IsWithin p f.cells → IsAtMost (value_at f a p) most_value
  pub forces : (a : Axis) (p : Triple) → IsWithin p f.cells → IsAtMost (scaled (value_at f a p) by) most_force
