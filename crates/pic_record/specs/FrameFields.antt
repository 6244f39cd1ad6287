-- A frame of a dump, field by field: this project's profile.
use Rattle.std.specs.Prelude.{◌≡◌, ℤ, pos, ◌-ℤ◌, ℕ, ◌+◌, ◌-◌, ◌*◌, ◌&&◌, Bool, nat_le, nat_eq, unsigned_abs, List, [], ◌∷◌, length, sum, All}
use Rattle.pic_num.specs.declared.motion.Particle.{Particle}
use Rattle.pic_num.specs.Limits.{most_value, most_force}
use Rattle.pic_num.specs.Multiplier.{Multiplier}
use Rattle.pic_num.specs.Rounding.{scaled}
use Rattle.pic_num.specs.Sizes.{IsAtMost}
use Rattle.pic_num.specs.Space.{Triple, triple}
use Rattle.pic_num.specs.Velocity.{too_fast}
use Rattle.pic_block.specs.Cells.{count_of}
use Rattle.pic_grid.specs.Hat.{IsInBox}
use Rattle.pic_grid.specs.Lattice.{Field}
use Rattle.pic_energy.specs.declared.amounts.Energies.{Energies}
use Rattle.pic_energy.specs.Energies.{energies_of, IsBounded, IsOfKinds}
use Rattle.pic_fields.specs.Parser.{Parser, done, ◌>>=◌, checked, mapped, each}
use Rattle.pic_fields.specs.Number.{u128_at, i128_at, between}
use Rattle.pic_record.specs.Fields.{strong_value, out_of_range, wrong_energy, below, the_step}
use Rattle.pic_record.specs.Layout.{LayoutView, species_of}

-- a frame: its step, the values of E and B in the order of places, the particles, and the energies
pub record FrameView : Type 0 where
  pub step : ℕ
  pub e : List ℤ
  pub b : List ℤ
  pub particles : List Particle
  pub energies : Energies

-- a value within its limit, whose force value is within its own
abbrev pub is_moderate : Multiplier → ℤ → Bool
is_moderate by v = nat_le (unsigned_abs v) most_value && nat_le (unsigned_abs (scaled v by)) most_force

pub record IsModerate (by : Multiplier) (v : ℤ) : Type 0 where
  pub value : IsAtMost v most_value
  pub force : IsAtMost (scaled v by) most_force

-- every value up to a size is so
abbrev pub AreModerateUpTo : ℕ → Multiplier → Type 0
AreModerateUpTo size by = (v : ℤ) → IsAtMost v size → IsModerate by v

-- the next value of a field
unfoldable pub value_at : Multiplier → List ℤ → Parser ℤ
value_at by before = checked strong_value (is_moderate by) i128_at

-- the values of a field
unfoldable pub field_at : Triple → Multiplier → Parser (List ℤ)
field_at n by = each (3 * count_of n) (value_at by)

-- a position on an axis of so many cells of this side
unfoldable pub coordinate_at : ℕ → ℕ → Parser ℕ
coordinate_at side cells = below out_of_range (cells * side)

unfoldable pub position_at : ℕ → Triple → Parser (List ℕ)
position_at side n = coordinate_at side n.x >>= (λ x. coordinate_at side n.y >>= (λ y. coordinate_at side n.z >>= (λ z. done (x ∷ y ∷ z ∷ []))))

-- a velocity that a push keeps
unfoldable pub speed_at : ℕ → Parser ℤ
speed_at side = between out_of_range (pos 0 -ℤ pos (too_fast side)) (pos (too_fast side - 1))

unfoldable pub velocity_at : ℕ → Parser (List ℤ)
velocity_at side = speed_at side >>= (λ x. speed_at side >>= (λ y. speed_at side >>= (λ z. done (x ∷ y ∷ z ∷ []))))

-- the particle of an identity, which tells its species
unfoldable pub particle_with : LayoutView → ℕ → Parser Particle
particle_with l id =
    position_at l.side l.cells
    >>= (λ x. velocity_at l.side >>= (λ v. done (record { id = id; species = species_of l.counts id; x = x; v = v })))

-- the next particle: its identity is its place in the list
unfoldable pub particle_at : LayoutView → List Particle → Parser Particle
particle_at l before = particle_with l (length before)

unfoldable pub particles_at : LayoutView → Parser (List Particle)
particles_at l = each (sum l.counts) (particle_at l)

unfoldable pub energy_at : ℕ → Parser ℕ
energy_at want = checked wrong_energy (nat_eq want) u128_at

unfoldable pub energies_at : Energies → Parser Energies
energies_at want =
    energy_at want.kinetic
    >>= (λ kinetic. energy_at want.electric
    >>= (λ electric. energy_at want.magnetic
    >>= (λ magnetic. done (record { kinetic = kinetic; electric = electric; magnetic = magnetic }))))

-- a field of such values
abbrev pub field_with : LayoutView → List ℤ → Field
field_with l values = record { cells = l.cells; side = l.side; parts = record { x = 1; y = 1; z = 1 }; values = values }

abbrev pub frame_of : ℕ → List ℤ → List ℤ → List Particle → Energies → FrameView
frame_of step e b particles energies = record { step = step; e = e; b = b; particles = particles; energies = energies }

-- the fields, the particles, and their energies, after the step
unfoldable pub state_at : LayoutView → ℕ → Parser FrameView
state_at l step =
    field_at l.cells l.scales.e_force
    >>= (λ e. field_at l.cells l.scales.b_force
    >>= (λ b. particles_at l
    >>= (λ particles. mapped (frame_of step e b particles) (energies_at (energies_of l.scales l.kinds (field_with l e) (field_with l b) particles)))))

-- the frame of the step that is due
unfoldable pub frame_at : LayoutView → ℕ → Parser FrameView
frame_at l due = the_step due >>= (λ step. state_at l due)

-- how many bytes a frame has, behind its mark: 52 for its step and its energies, 96 for the values of E
-- and B in a cell, and 24 for a particle
abbrev pub frame_length : LayoutView → ℕ
frame_length l = 52 + 96 * count_of l.cells + 24 * sum l.counts

-- a field with other values
pub record IsSameShape (old new : Field) : Type 0 where
  pub cells : new.cells ≡ old.cells
  pub side : new.side ≡ old.side
  pub parts : new.parts ≡ old.parts

-- a particle whose position lies in the box
pub record IsBoxed (side : ℕ) (n : Triple) (particle : Particle) : Type 0 where
  pub place : IsInBox side n (triple particle.x)

-- what the reader knows of a state that it read: its values are within their bounds, and each particle
-- is of a species and lies in the box
pub record IsHeld (l : LayoutView) (e b : Field) (particles : List Particle) : Type 0 where
  pub electric : IsBounded l.scales.e_force e
  pub magnetic : IsBounded l.scales.b_force b
  pub species : All (IsOfKinds l.kinds) particles
  pub places : All (IsBoxed l.side l.cells) particles
