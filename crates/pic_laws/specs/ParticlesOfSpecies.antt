-- The particles that a run begins with, each by its species and its index there, with no walk along
-- the species.
use Rattle.std.specs.Prelude.{◌≡◌, ℕ, ◌<◌, length, slice_get, Some}
use Rattle.pic_num.specs.declared.motion.Particle.{Particle}
use Rattle.pic_deck.specs.Deck.{DeckView, deck_grid, deck_terms}
use Rattle.pic_deck.specs.Species.{AreFilled, particles_of, species_at}
use Rattle.pic_load.specs.Loading.{id_of, loaded, loaded_particle, point_in}

-- the particle of an index, of the species of a number: its identity is how many come before it,
-- and its point that of what fills its species
abbrev pub particle_of_index : DeckView → ℕ → ℕ → Particle
particle_of_index d number i =
    loaded_particle (id_of d.species number i) number
    (point_in (deck_grid d) d.species (loaded d) (species_at d.species number).fill i)

-- the particles of a deck are those of its species, each at the place of its identity, and no
-- others
pub record AreOfTheirSpecies (d : DeckView) : Type 0 where
  pub each : (number i : ℕ) → number < length d.species → i < (species_at d.species number).count
      → slice_get (loaded d) (id_of d.species number i) ≡ Some (particle_of_index d number i)
  pub all : length (loaded d) ≡ particles_of d.species

-- those of each deck whose species are filled as a deck's are
abbrev pub ParticlesAreThoseOfTheirSpecies : Type 0
ParticlesAreThoseOfTheirSpecies =
    (d : DeckView) → AreFilled (deck_terms d) d.species → AreOfTheirSpecies d
