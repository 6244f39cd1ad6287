-- The spelling of a frame.
use Rattle.std.proofs.Common.{◌≡◌, ℕ, ℤ, ◌-◌, ◌*◌, ◌<◌, ◌^◌, Bool, true, pos, List, [], ◌∷◌, ◌++◌, length, refl, ap, append_assoc}
use Rattle.std.proofs.Math.IntN.{◌-ℤ◌}
use Rattle.std.specs.Prelude.{nat_eq, sum}
use mir.Syntax.{w128}
use mir.Val.{SFits}
use Rattle.pic_num.specs.declared.motion.Particle.{Particle}
use Rattle.pic_num.specs.Bytes.{u32_bytes, i32_bytes, u128_bytes, i128_bytes}
use Rattle.pic_num.specs.Multiplier.{Multiplier}
use Rattle.pic_num.specs.Space.{Triple, triple, spot}
use Rattle.pic_num.specs.Velocity.{too_fast}
use Rattle.pic_block.specs.Cells.{count_of}
use Rattle.pic_energy.specs.declared.amounts.Energies.{Energies}
use Rattle.pic_energy.specs.Energies.{energies_of}
use Rattle.pic_fields.specs.Parser.{mapped}
use Rattle.pic_fields.proofs.Spells.{Spells}
use Rattle.pic_fields.proofs.SpellLaws.{FitsEach, spells_bind, spells_last, spells_checked, spells_each, spells_so, right_4}
use Rattle.pic_fields.proofs.NumberLaws.{FitsU32, spells_u32, spells_u128, spells_i128, FitsI32, spells_between}
use Rattle.pic_record.specs.RecordText.{values_bytes, position_bytes, velocity_bytes, particle_bytes, particles_bytes, energies_bytes}
use Rattle.pic_record.specs.Fields.{strong_value, out_of_range, wrong_energy, is_below, below}
use Rattle.pic_fields.specs.Number.{is_between}
use Rattle.pic_record.specs.FrameFields.{FrameView, is_moderate, value_at, field_at, coordinate_at, position_at, speed_at, velocity_at, particle_with}
use Rattle.pic_record.specs.FrameFields.{particle_at, particles_at, energy_at, energies_at, field_with, frame_of, state_at}
use Rattle.pic_record.specs.Layout.{LayoutView, species_of}

-- a value of a field
abbrev FitsValue : Multiplier → List ℤ → ℤ → Type 0
FitsValue by before v = SFits w128 v × (is_moderate by v ≡ true)

spells_value : (by : Multiplier) (before : List ℤ) → Spells (value_at by before) i128_bytes (FitsValue by before)
unfolding value_at
spells_value by before = spells_checked strong_value (is_moderate by) spells_i128

abbrev FitsField : Triple → Multiplier → List ℤ → Type 0
FitsField n by values = FitsEach (FitsValue by) (3 * count_of n) values

spells_values : (n : Triple) (by : Multiplier) → Spells (field_at n by) values_bytes (FitsField n by)
unfolding field_at values_bytes
spells_values n by = spells_each (value_at by) i128_bytes (FitsValue by) (3 * count_of n) (spells_value by)

pub spells_below : (cause n : ℕ) → Spells (below cause n) u32_bytes (FitsU32 (is_below n))
unfolding below
spells_below cause n = spells_checked cause (is_below n) spells_u32

-- three numbers
abbrev pub three : {A : Type 0} → A → A → A → List A
three x y z = x ∷ y ∷ z ∷ []

abbrev FitsPosition : ℕ → Triple → List ℕ → Type 0
FitsPosition side n l =
    FitsU32 (is_below (n.x * side)) (triple l).x
    × (FitsU32 (is_below (n.y * side)) (triple l).y × (FitsU32 (is_below (n.z * side)) (triple l).z × (l ≡ three (triple l).x (triple l).y (triple l).z)))

spells_position : (side : ℕ) (n : Triple) → Spells (position_at side n) (λ l. position_bytes (triple l)) (FitsPosition side n)
unfolding position_at coordinate_at position_bytes
spells_position side n =
    spells_so (λ b f. f) (λ b f. f) (λ b f. append_assoc (u32_bytes (triple b).x) (u32_bytes (triple b).y) (u32_bytes (triple b).z))
    (spells_bind (λ (l : List ℕ). (triple l).x) (λ a l f g. ap (λ (m : List ℕ). (triple m).x) g.1.1) (spells_below out_of_range (n.x * side))
    (λ a. spells_bind (λ (l : List ℕ). (triple l).y) (λ b l f g. ap (λ (m : List ℕ). (triple m).y) g.1) (spells_below out_of_range (n.y * side))
    (λ b. spells_last (λ c. three a b c) (λ (l : List ℕ). (triple l).z) (λ c. refl) (spells_below out_of_range (n.z * side)))))

-- a kept velocity
abbrev is_kept : ℕ → ℤ → Bool
is_kept side = is_between (pos 0 -ℤ pos (too_fast side)) (pos (too_fast side - 1))

abbrev FitsVelocity : ℕ → List ℤ → Type 0
FitsVelocity side l =
    FitsI32 (is_kept side) (spot l).x × (FitsI32 (is_kept side) (spot l).y × (FitsI32 (is_kept side) (spot l).z × (l ≡ three (spot l).x (spot l).y (spot l).z)))

spells_speed : (side : ℕ) → Spells (speed_at side) i32_bytes (FitsI32 (is_kept side))
unfolding speed_at
spells_speed side = spells_between out_of_range (pos 0 -ℤ pos (too_fast side)) (pos (too_fast side - 1))

spells_velocity : (side : ℕ) → Spells (velocity_at side) (λ l. velocity_bytes (spot l)) (FitsVelocity side)
unfolding velocity_at velocity_bytes
spells_velocity side =
    spells_so (λ b f. f) (λ b f. f) (λ b f. append_assoc (i32_bytes (spot b).x) (i32_bytes (spot b).y) (i32_bytes (spot b).z))
    (spells_bind (λ (l : List ℤ). (spot l).x) (λ a l f g. ap (λ (m : List ℤ). (spot m).x) g.1.1) (spells_speed side)
    (λ a. spells_bind (λ (l : List ℤ). (spot l).y) (λ b l f g. ap (λ (m : List ℤ). (spot m).y) g.1) (spells_speed side)
    (λ b. spells_last (λ c. three a b c) (λ (l : List ℤ). (spot l).z) (λ c. refl) (spells_speed side))))

-- the particle of an identity
abbrev particle : LayoutView → ℕ → List ℕ → List ℤ → Particle
particle l id x v = record { id = id; species = species_of l.counts id; x = x; v = v }

abbrev FitsParticle : LayoutView → ℕ → Particle → Type 0
FitsParticle l id p = FitsPosition l.side l.cells p.x × (FitsVelocity l.side p.v × (p ≡ particle l id p.x p.v))

spells_particle : (l : LayoutView) (id : ℕ) → Spells (particle_with l id) particle_bytes (FitsParticle l id)
unfolding particle_with particle_bytes
spells_particle l id =
    spells_bind (λ (p : Particle). p.x) (λ x p f g. ap (λ (q : Particle). q.x) g.1) (spells_position l.side l.cells)
    (λ x. spells_last (λ v. particle l id x v) (λ (p : Particle). p.v) (λ v. refl) (spells_velocity l.side))

abbrev FitsNext : LayoutView → List Particle → Particle → Type 0
FitsNext l before p = FitsParticle l (length before) p

spells_particles : (l : LayoutView) → Spells (particles_at l) particles_bytes (FitsEach (FitsNext l) (sum l.counts))
unfolding particles_at particle_at particles_bytes
spells_particles l = spells_each (particle_at l) particle_bytes (FitsNext l) (sum l.counts) (λ before. spells_particle l (length before))

-- the energies
abbrev FitsEnergy : ℕ → ℕ → Type 0
FitsEnergy want n = (n < 2 ^ 128) × (nat_eq want n ≡ true)

spells_energy : (want : ℕ) → Spells (energy_at want) u128_bytes (FitsEnergy want)
unfolding energy_at
spells_energy want = spells_checked wrong_energy (nat_eq want) spells_u128

abbrev energies : ℕ → ℕ → ℕ → Energies
energies kinetic electric magnetic = record { kinetic = kinetic; electric = electric; magnetic = magnetic }

abbrev FitsEnergies : Energies → Energies → Type 0
FitsEnergies want e =
    FitsEnergy want.kinetic e.kinetic × (FitsEnergy want.electric e.electric × (FitsEnergy want.magnetic e.magnetic
    × (e ≡ energies e.kinetic e.electric e.magnetic)))

spells_energies : (want : Energies) → Spells (energies_at want) energies_bytes (FitsEnergies want)
unfolding energies_at energies_bytes
spells_energies want =
    spells_so (λ b f. f) (λ b f. f) (λ b f. append_assoc (u128_bytes b.kinetic) (u128_bytes b.electric) (u128_bytes b.magnetic))
    (spells_bind (λ (e : Energies). e.kinetic) (λ a e f g. ap (λ (o : Energies). o.kinetic) g.1.1) (spells_energy want.kinetic)
    (λ a. spells_bind (λ (e : Energies). e.electric) (λ b e f g. ap (λ (o : Energies). o.electric) g.1) (spells_energy want.electric)
    (λ b. spells_last (λ c. energies a b c) (λ (e : Energies). e.magnetic) (λ c. refl) (spells_energy want.magnetic))))

-- the energies that a state has to have
abbrev energies_in : LayoutView → List ℤ → List ℤ → List Particle → Energies
energies_in l e b particles = energies_of l.scales l.kinds (field_with l e) (field_with l b) particles

abbrev pub FitsState : LayoutView → ℕ → FrameView → Type 0
FitsState l step f =
    FitsField l.cells l.scales.e_force f.e
    × (FitsField l.cells l.scales.b_force f.b
    × (FitsEach (FitsNext l) (sum l.counts) f.particles × (FitsEnergies (energies_in l f.e f.b f.particles) f.energies
    × (f ≡ frame_of step f.e f.b f.particles f.energies))))

unfoldable pub state_text : FrameView → List ℕ
state_text f = values_bytes f.e ++ values_bytes f.b ++ particles_bytes f.particles ++ energies_bytes f.energies

pub spells_state : (l : LayoutView) (step : ℕ) → Spells (state_at l step) state_text (FitsState l step)
unfolding state_at state_text mapped
spells_state l step =
    spells_so (λ b f. f) (λ b f. f) (λ b f. right_4 (values_bytes b.e) (values_bytes b.b) (particles_bytes b.particles) (energies_bytes b.energies))
    (spells_bind (λ (f : FrameView). f.e) (λ e f h g. ap (λ (o : FrameView). o.e) g.1.1.1) (spells_values l.cells l.scales.e_force)
    (λ e. spells_bind (λ (f : FrameView). f.b) (λ b f h g. ap (λ (o : FrameView). o.b) g.1.1) (spells_values l.cells l.scales.b_force)
    (λ b. spells_bind (λ (f : FrameView). f.particles) (λ ps f h g. ap (λ (o : FrameView). o.particles) g.1) (spells_particles l)
    (λ ps. spells_last (frame_of step e b ps) (λ (f : FrameView). f.energies) (λ c. refl) (spells_energies (energies_in l e b ps))))))
