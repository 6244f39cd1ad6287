-- What is read of a frame, of any list of numbers: it is one that can be put.
use Rattle.std.proofs.Common.{◌≡◌, ℕ, ℤ, pos, ◌-◌, ◌*◌, ◌+◌, ◌<◌, ◌-ℤ◌, ◌≤ℤ◌, ◌<ℤ◌, true, leb, int_le, unsigned_abs}
use Rattle.std.proofs.Common.{List, [], ◌∷◌, length, map, sum, All, refl, sym, ◌∙◌, arith}
use Rattle.std.specs.Prelude.{⊤, nat_eq}
use Rattle.std.specs.List.{range_with_len}
use Rattle.std.proofs.lemmas.Bool.{and_parts, eqb-true, leb-true, ltb-true}
use Rattle.std.proofs.lemmas.Int.{ints}
use Rattle.std.proofs.lemmas.List.{ext_get_or, length-map, length-take-le, get_or-map}
use Rattle.std.proofs.lemmas.List.Elements.{All-from_get_or}
use Rattle.std.proofs.lemmas.List.FromFn.{get_or-range_with_len, length-range_with_len}
use Rattle.pic_num.specs.declared.axis.Axis.{Axis}
use Rattle.pic_num.specs.declared.axis.Axis.TheVariants.{X, Y, Z}
use Rattle.pic_num.specs.declared.motion.Particle.{Particle}
use Rattle.pic_num.specs.Limits.{most_value, most_force}
use Rattle.pic_num.specs.Multiplier.{Multiplier}
use Rattle.pic_num.specs.Rounding.{scaled}
use Rattle.pic_num.specs.Space.{Triple, triple, spot, along}
use Rattle.pic_num.specs.Velocity.{too_fast, IsKeptVelocity}
use Rattle.pic_block.specs.Cells.{count_of}
use Rattle.pic_grid.specs.Hat.{IsInBox}
use Rattle.pic_energy.specs.declared.amounts.Energies.{Energies}
use Rattle.pic_energy.specs.Energies.{energies_of}
use Rattle.pic_fields.specs.Number.{u128_at, i128_at, is_between}
use Rattle.pic_fields.proofs.GiveLaws.{Gives, gives_so, gives_done, gives_then, gives_mapped, gives_checked, gives_field, gives_each, AreEach, each_fits}
use Rattle.pic_fields.proofs.GiveLaws.{gives_u32, gives_between}
use Rattle.pic_record.specs.Fields.{strong_value, out_of_range, wrong_energy, wrong_step, is_below, below, the_step}
use Rattle.pic_record.specs.FrameFields.{frame_of, is_moderate, IsModerate, value_at, field_at, coordinate_at, position_at, speed_at, velocity_at}
use Rattle.pic_record.specs.FrameFields.{particle_with, particle_at, particles_at, energy_at, energies_at, field_with, state_at, frame_at}
use Rattle.pic_record.specs.Layout.{LayoutView, species_of}
use Rattle.pic_record.specs.Readable.{IsReadableField, IsReadableParticle, IsReadableFrame}

-- the values of a field
moderate_is : (by : Multiplier) (v : ℤ) → is_moderate by v ≡ true → IsModerate by v
moderate_is by v is =
    let (value, force) = and_parts (leb (unsigned_abs v) most_value) (leb (unsigned_abs (scaled v by)) most_force) is in
    record { value = record { size = leb-true _ _ value }; force = record { size = leb-true _ _ force } }

gives_value : (by : Multiplier) (before : List ℤ) → Gives (value_at by before) (IsModerate by)
unfolding value_at i128_at
gives_value by before =
    gives_so (λ v is. moderate_is by v is.1) (gives_checked strong_value (is_moderate by) (gives_mapped {G = λ z. ⊤} _ (λ a is. tt) (gives_field 16)))

gives_values : (n : Triple) (by : Multiplier) → Gives (field_at n by) (IsReadableField n by)
unfolding field_at
gives_values n by =
    gives_so (λ values fits. (let are = each_fits (λ before. IsModerate by) (pos 0) (3 * count_of n) values fits in
    let count = are.size in
    record {
      count = count;
      moderate = All-from_get_or (IsModerate by) values (pos 0) (λ i less. are.at i (omega (arith, less, count)));
    })) (gives_each (value_at by) (λ before. IsModerate by) (3 * count_of n) (gives_value by))

-- a position in the box
gives_coordinate : (side cells : ℕ) → Gives (coordinate_at side cells) (λ x. x < cells * side)
unfolding coordinate_at below
gives_coordinate side cells = gives_so (λ x is. ltb-true x (cells * side) is.1) (gives_checked out_of_range (is_below (cells * side)) gives_u32)

record IsPlace (side : ℕ) (n : Triple) (x : List ℕ) : Type 0 where
  axes : length x ≡ 3
  place : IsInBox side n (triple x)

gives_position : (side : ℕ) (n : Triple) → Gives (position_at side n) (IsPlace side n)
unfolding position_at
gives_position side n =
    gives_then (gives_coordinate side n.x) (λ x in_x. gives_then (gives_coordinate side n.y) (λ y in_y. gives_then (gives_coordinate side n.z)
    (λ z in_z. gives_done (x ∷ y ∷ z ∷ []) (record { axes = refl; place = record { x = in_x; y = in_y; z = in_z } }))))

-- a velocity that a push keeps
record IsKept (side : ℕ) (v : ℤ) : Type 0 where
  least : (pos 0 -ℤ pos (too_fast side)) ≤ℤ v
  most : v <ℤ pos (too_fast side)

kept_is : (side : ℕ) (v : ℤ) → is_between (pos 0 -ℤ pos (too_fast side)) (pos (too_fast side - 1)) v ≡ true → IsKept side v
kept_is side v is =
    let (low, high) = and_parts (int_le (pos 0 -ℤ pos (too_fast side)) v) (int_le v (pos (too_fast side - 1))) is in
    record { least = grind (arith, ints, low); most = grind (arith, ints, high) }

gives_speed : (side : ℕ) → Gives (speed_at side) (IsKept side)
unfolding speed_at
gives_speed side = gives_so (kept_is side) (gives_between out_of_range (pos 0 -ℤ pos (too_fast side)) (pos (too_fast side - 1)))

record IsVelocity (side : ℕ) (v : List ℤ) : Type 0 where
  speeds : length v ≡ 3
  velocity : IsKeptVelocity side (spot v)

velocity_is : (side : ℕ) (x y z : ℤ) → IsKept side x → IsKept side y → IsKept side z → IsVelocity side (x ∷ y ∷ z ∷ [])
velocity_is side x y z in_x in_y in_z = record { speeds = refl; velocity = record { least = least; most = most } }
  where
    least : (a : Axis) → (pos 0 -ℤ pos (too_fast side)) ≤ℤ along a (spot (x ∷ y ∷ z ∷ []))
    least X = in_x.least
    least Y = in_y.least
    least Z = in_z.least

    most : (a : Axis) → along a (spot (x ∷ y ∷ z ∷ [])) <ℤ pos (too_fast side)
    most X = in_x.most
    most Y = in_y.most
    most Z = in_z.most

gives_velocity : (side : ℕ) → Gives (velocity_at side) (IsVelocity side)
unfolding velocity_at
gives_velocity side =
    gives_then (gives_speed side) (λ x in_x. gives_then (gives_speed side) (λ y in_y. gives_then (gives_speed side)
    (λ z in_z. gives_done (x ∷ y ∷ z ∷ []) (velocity_is side x y z in_x in_y in_z))))

-- the particles
record IsNumbered (l : LayoutView) (id : ℕ) (p : Particle) : Type 0 where
  identity : p.id ≡ id
  fits : IsReadableParticle l p

gives_particle : (l : LayoutView) (id : ℕ) → Gives (particle_with l id) (IsNumbered l id)
unfolding particle_with
gives_particle l id =
    gives_then (gives_position l.side l.cells) (λ x in_x. gives_then (gives_velocity l.side)
    (λ v in_v. gives_done (record { id = id; species = species_of l.counts id; x = x; v = v }) (record {
      identity = refl;
      fits = record { axes = in_x.axes; place = in_x.place; speeds = in_v.speeds; velocity = in_v.velocity; species = refl };
    })))

record AreParticles (l : LayoutView) (particles : List Particle) : Type 0 where
  identities : map (λ particle. particle.id) particles ≡ range_with_len 0 (sum l.counts)
  fit : All (IsReadableParticle l) particles

no_particle : Particle
no_particle = record { id = 0; species = 0; x = []; v = [] }

particles_are : (l : LayoutView) (ps : List Particle) → AreEach (λ before. IsNumbered l (length before)) no_particle (sum l.counts) ps → AreParticles l ps
particles_are l ps are =
    let size = are.size in
    let n = sum l.counts in
    let count = length-map ps (λ (p : Particle). p.id) in
    let numbers = length-range_with_len 0 n in
    record {
      identities = ext_get_or 0 (map (λ (p : Particle). p.id) ps) (range_with_len 0 n) (omega (arith, count, size, numbers)) (λ i less.
          (let inside : i < n = omega (arith, less, count, size) in
          let before = length-take-le i ps (omega (arith, inside, size)) in
          let here : i ≡ 0 + i = omega arith in
          get_or-map (λ (p : Particle). p.id) ps i no_particle 0 (omega (arith, inside, size))
          ∙ (are.at i inside).identity
          ∙ before
          ∙ here
          ∙ sym (get_or-range_with_len 0 n i 0 inside)));
      fit = All-from_get_or (IsReadableParticle l) ps no_particle (λ i less. (are.at i (omega (arith, less, size))).fits);
    }

gives_particles : (l : LayoutView) → Gives (particles_at l) (AreParticles l)
unfolding particles_at particle_at
gives_particles l =
    gives_so (λ ps fits. particles_are l ps (each_fits (λ before. IsNumbered l (length before)) no_particle (sum l.counts) ps fits))
    (gives_each (particle_at l) (λ before. IsNumbered l (length before)) (sum l.counts) (λ before. gives_particle l (length before)))

-- the energies
gives_energy : (want : ℕ) → Gives (energy_at want) (λ n. want ≡ n)
unfolding energy_at u128_at
gives_energy want =
    gives_so (λ n is. eqb-true want n is.1) (gives_checked wrong_energy (nat_eq want) (gives_mapped {G = λ z. ⊤} _ (λ a is. tt) (gives_field 16)))

gives_energies : (want : Energies) → Gives (energies_at want) (λ e. e ≡ want)
unfolding energies_at
gives_energies want =
    gives_then (gives_energy want.kinetic) (λ k is_k. gives_then (gives_energy want.electric) (λ e is_e. gives_then (gives_energy want.magnetic)
    (λ m is_m. gives_done (record { kinetic = k; electric = e; magnetic = m })
    (λ i. record { kinetic = sym is_k i; electric = sym is_e i; magnetic = sym is_m i }))))

-- a frame
pub gives_frame : (l : LayoutView) (due : ℕ) → Gives (frame_at l due) (IsReadableFrame l)
unfolding frame_at the_step state_at
gives_frame l due =
    gives_then (gives_checked wrong_step (nat_eq due) gives_u32) (λ step is.
    gives_then (gives_values l.cells l.scales.e_force) (λ e fits_e.
    gives_then (gives_values l.cells l.scales.b_force) (λ b fits_b.
    gives_then (gives_particles l) (λ ps are.
    gives_mapped (frame_of due e b ps) (λ energies same. record {
      e = fits_e;
      b = fits_b;
      identities = are.identities;
      particles = are.fit;
      energies = same;
    }) (gives_energies (energies_of l.scales l.kinds (field_with l e) (field_with l b) ps))))))
