-- The displaced start: species begin a way away from others. What a run begins with is then the E of its
-- deck, less the current of those ways.
use Rattle.std.specs.Prelude.{◌≡◌, ⊤, ℕ, ℤ, ◌-◌, ◌<◌, ◌≤◌, ◌-ℤ◌, Bool, true, false, List, map}
use Rattle.std.specs.Prelude.{take, length, codes, slice_index_or, Option, Some, None, Result, Ok, Err}
use Rattle.std.specs.List.{list_any}
use Rattle.pic_num.specs.declared.axis.Axis.{Axis}
use Rattle.pic_num.specs.declared.motion.Kind.{Kind}
use Rattle.pic_num.specs.declared.motion.Particle.{Particle}
use Rattle.pic_num.specs.Multiplier.{Multiplier}
use Rattle.pic_num.specs.Space.{Triple}
use Rattle.pic_grid.specs.Lattice.{Field, field_of}
use Rattle.pic_filter.specs.Smoothing.{filtered}
use Rattle.pic_charge.specs.Gauss.{MeetsGauss}
use Rattle.pic_walk.specs.Path.{key_at}
use Rattle.pic_deck.specs.declared.refusal.Refusal.{Refusal}
use Rattle.pic_deck.specs.declared.species.Fill.{Fill}
use Rattle.pic_deck.specs.declared.species.Fill.TheVariants.{Points, Lattice, Random, Pair, Displace}
use Rattle.pic_deck.specs.declared.species.Species.{Species}
use Rattle.pic_deck.specs.Deck.{DeckView, IsWithinLimits, initial_e}
use Rattle.pic_deck.specs.Initial.{first_strong}
use Rattle.pic_deck.specs.Keys.{force_allowed}
use Rattle.pic_deck.specs.Reading.{as_read}
use Rattle.pic_deck.specs.Species.{particles_of, species_at}
use Rattle.pic_load.specs.Loading.{AreLoaded, id_of, loaded, no_particle}
use Rattle.pic_displace.specs.declared.fault.DisplaceFault.{DisplaceFault}
use Rattle.pic_displace.specs.declared.fault.DisplaceFault.TheVariants.{Refused, NoMemory}
use Rattle.pic_ways.specs.declared.way.Way.{Way}
use Rattle.pic_ways.specs.Way.{at_start, current_of_ways}

-- whether a species that is filled so is displaced from another
abbrev pub is_displacement : Fill → Bool
is_displacement (Points points) = false
is_displacement (Lattice first gap count v) = false
is_displacement (Random count seed stream drift spread) = false
is_displacement (Pair named seed stream drift spread) = false
is_displacement (Displace named by v) = true

-- whether one of some species is
abbrev pub has_displaced : List Species → Bool
has_displaced ss = list_any (λ s. is_displacement s.fill) ss

-- the index of a particle among those of its species
abbrev pub index_of_particle : List Species → Particle → ℕ
index_of_particle ss x = x.id - particles_of (take x.species ss)

-- the way of a particle whose species is filled so: from the particle of the same index of the species that
-- is named
abbrev pub way_by : List Species → List Particle → Particle → Fill → Option Way
way_by ss particles x (Points points) = None
way_by ss particles x (Lattice first gap count v) = None
way_by ss particles x (Random count seed stream drift spread) = None
way_by ss particles x (Pair named seed stream drift spread) = None
way_by ss particles x (Displace named by v) = Some (record {
  charge = (species_at ss x.species).kind.charge;
  from = (slice_index_or particles (id_of ss named (index_of_particle ss x)) no_particle).x;
  by = by;
})

-- the way of a particle among those of some species, if it is displaced
unfoldable pub way_of : List Species → List Particle → Particle → Option Way
way_of ss particles x = way_by ss particles x (species_at ss x.species).fill

-- in a list of particles there is one of that index of the species that is named
abbrev pub HasNamed : List Species → List Particle → Particle → Fill → Type 0
HasNamed ss particles x (Points points) = ⊤
HasNamed ss particles x (Lattice first gap count v) = ⊤
HasNamed ss particles x (Random count seed stream drift spread) = ⊤
HasNamed ss particles x (Pair named seed stream drift spread) = ⊤
HasNamed ss particles x (Displace named by v) =
    (named ≤ length ss) × (id_of ss named (index_of_particle ss x) < length particles)

-- a particle of a list is one of these species by its identity, and if it is displaced, so is the one from
-- which it is
pub record IsOfSpecies (ss : List Species) (particles : List Particle) (x : Particle) : Type 0 where
  pub species : x.species < length ss
  pub start : particles_of (take x.species ss) ≤ x.id
  pub named : HasNamed ss particles x (species_at ss x.species).fill

-- the E of a displaced start: that of the deck, less the current of the ways of all displaced particles,
-- which is filtered where that of a step is
unfoldable pub displaced_e : DeckView → List Particle → Axis → Triple → ℤ
displaced_e d particles a p =
    initial_e d a p
    -ℤ filtered d.filter d.cells (current_of_ways d.side d.cells (way_of d.species particles) particles a) p

-- every displaced particle where the one stands from which it is displaced
abbrev pub undisplaced : DeckView → List Particle → List Particle
undisplaced d particles = map (λ x. at_start x (way_of d.species particles x)) particles

-- the test of the force values of an E: the refusal names that of the least place
abbrev pub e_allowed : Triple → Multiplier → (Axis → Triple → ℤ) → Result (Unit {0}) Refusal
e_allowed n by g = as_read (force_allowed (key_at (codes "scale") (codes "e_force")) (first_strong n by g))

-- that of the displaced start's E
abbrev pub displaced_allowed : DeckView → List Particle → Result (Unit {0}) Refusal
displaced_allowed d particles = e_allowed d.cells d.scales.e_force (displaced_e d particles)

-- a call answers so, and never want of memory
abbrev pub Refuses : Result (Unit {0}) Refusal → Result (Unit {0}) DisplaceFault → Type 0
Refuses allowed (Ok done) = allowed ≡ Ok tt
Refuses allowed (Err (Refused r)) = allowed ≡ Err r
Refuses allowed (Err NoMemory) = ⊥

-- a lattice of E becomes that of the displaced start
pub record BecomesDisplaced (d : DeckView) (particles : List Particle) (old new : Field) : Type 0 where
  pub is : new ≡ field_of old.side d.cells old.parts (displaced_e d particles)

-- what a call answers, and what it leaves: the displaced start's E and the answer of its test, or want of
-- memory and the E that it was given
abbrev pub Displaces : DeckView → List Particle → Field → Field → Result (Unit {0}) DisplaceFault → Type 0
Displaces d particles old new (Ok done) = BecomesDisplaced d particles old new × (displaced_allowed d particles ≡ Ok tt)
Displaces d particles old new (Err (Refused r)) = BecomesDisplaced d particles old new × (displaced_allowed d particles ≡ Err r)
Displaces d particles old new (Err NoMemory) = new ≡ old

-- what a deck's kinds of particles are
abbrev pub kinds_of : DeckView → List Kind
kinds_of d = map (λ (s : Species). s.kind) d.species

-- Where the deck's own E meets Gauss's law for the particles at the places from which they are displaced,
-- the displaced start's E meets it for the particles where they stand.
abbrev pub DisplacedStartKeepsGauss : Type 0
DisplacedStartKeepsGauss =
    (d : DeckView) (parts : Triple)
    → IsWithinLimits d
    → AreLoaded d (loaded d)
    → MeetsGauss d.side d.filter d.cells (kinds_of d) (undisplaced d (loaded d)) (field_of d.side d.cells parts (initial_e d))
    → MeetsGauss d.side d.filter d.cells (kinds_of d) (loaded d) (field_of d.side d.cells parts (displaced_e d (loaded d)))
