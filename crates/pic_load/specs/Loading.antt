-- The particles that a run begins with, this project's profile: those of a deck's species in the
-- deck's order, with the identities 0, 1, 2 and so on.
use Rattle.std.specs.Prelude.{◌≡◌, ℕ, ℤ, pos, ◌+◌, ◌+ℤ◌, ◌*◌, ◌%◌, ◌<◌, ◌≤◌, List, [], ◌∷◌, ◌++◌, map, length, take, slice_index_or}
use Rattle.std.specs.List.{All, range_with_len}
use Rattle.rand_pcg.specs.Lcg.{Lcg}
use Rattle.pic_num.specs.declared.motion.Particle.{Particle}
pub use Rattle.pic_num.specs.NoParticle.{no_particle}
use Rattle.pic_num.specs.declared.axis.Axis.{Axis}
use Rattle.pic_num.specs.Rounding.{residue}
use Rattle.pic_num.specs.Sizes.{IsAtMost}
use Rattle.pic_num.specs.Space.{Triple, triple, Spot, spot, along}
use Rattle.pic_block.specs.Cells.{Grid, cell_of}
use Rattle.pic_grid.specs.Hat.{IsInBox}
use Rattle.pic_deck.specs.declared.species.Fill.{Fill}
use Rattle.pic_deck.specs.declared.species.Fill.TheVariants.{Points, Lattice, Random, Pair, Displace}
use Rattle.pic_deck.specs.declared.species.Species.{Species}
use Rattle.pic_deck.specs.Deck.{DeckView, deck_grid}
use Rattle.pic_deck.specs.Species.{Point6, no_point, allowance_of, fastest, particles_of}
use Rattle.pic_load.specs.Generator.{generator, after}
use Rattle.pic_load.specs.Drawing.{drawn_place, drawn_velocity}

-- a particle of a species, with its identity
abbrev pub loaded_particle : ℕ → ℕ → Point6 → Particle
loaded_particle id species point = record { id = id; species = species; x = point.x; v = point.v }

-- a site of a lattice, in the box of a grid
unfoldable pub site : Grid → Triple → Triple → Triple → List ℕ
site grid first gap at =
    (first.x + at.x * gap.x) % (grid.n.x * grid.side)
    ∷ (first.y + at.y * gap.y) % (grid.n.y * grid.side)
    ∷ (first.z + at.z * gap.z) % (grid.n.z * grid.side)
    ∷ []

-- a particle of a lattice: of the sites, x is the fastest
abbrev pub at_site : Grid → List ℕ → List ℕ → List ℕ → List ℤ → ℕ → Point6
at_site grid first gap count v i =
    record { x = site grid (triple first) (triple gap) (cell_of (triple count) i); v = v }

-- a particle that is drawn by thirty-nine words
abbrev pub drawn : Grid → List ℤ → List ℕ → Lcg → Point6
drawn grid drift spread g = record { x = drawn_place grid g; v = drawn_velocity (after 3 g) drift spread }

-- the identity of the particle of an index, of the species of a number
abbrev pub id_of : List Species → ℕ → ℕ → ℕ
id_of ss number i = particles_of (take number ss) + i

-- a particle where another one stands, with a velocity that is drawn by thirty-six words
abbrev pub beside : Particle → List ℤ → List ℕ → Lcg → Point6
beside other drift spread g = record { x = other.x; v = drawn_velocity g drift spread }

-- where a way from a position leads, in the periodic box of a grid
unfoldable pub moved : Grid → Triple → Spot → List ℕ
moved grid from by =
    residue (pos from.x +ℤ by.x) (grid.n.x * grid.side)
    ∷ residue (pos from.y +ℤ by.y) (grid.n.y * grid.side)
    ∷ residue (pos from.z +ℤ by.z) (grid.n.z * grid.side)
    ∷ []

-- a particle this way from another one, with a velocity
abbrev pub displaced : Grid → Particle → List ℤ → List ℤ → Point6
displaced grid other by v = record { x = moved grid (triple other.x) (spot by); v = v }

-- the particle of an index of what fills a species, after earlier species and their particles
abbrev pub point_in : Grid → List Species → List Particle → Fill → ℕ → Point6
point_in grid earlier done (Points points) i = slice_index_or points i no_point
point_in grid earlier done (Lattice first gap count v) i = at_site grid first gap count v i
point_in grid earlier done (Random count seed stream drift spread) i =
    drawn grid drift spread (after (39 * i) (generator seed stream))
point_in grid earlier done (Pair named seed stream drift spread) i =
    beside (slice_index_or done (id_of earlier named i) no_particle) drift spread (after (36 * i) (generator seed stream))
point_in grid earlier done (Displace named by v) i = displaced grid (slice_index_or done (id_of earlier named i) no_particle) by v

-- the first particles of a species, with the identities from start on
abbrev pub first_of_species : ℕ → ℕ → (ℕ → Point6) → ℕ → List Particle
first_of_species start species f k =
    map (λ i. loaded_particle (start + i) species (f i)) (range_with_len 0 k)

-- the particles of the next species
unfoldable pub particles_in : Grid → List Species → List Particle → Species → List Particle
particles_in grid earlier done s =
    first_of_species (length done) (length earlier) (point_in grid earlier done s.fill) s.count

-- the particles of earlier species and of those that are left
unfoldable pub loaded_after : Grid → List Species → List Particle → List Species → List Particle
loaded_after grid earlier done [] = done
loaded_after grid earlier done (s ∷ ss) =
    loaded_after grid (earlier ++ s ∷ []) (done ++ particles_in grid earlier done s) ss

-- the particles of a deck
unfoldable pub loaded : DeckView → List Particle
loaded d = loaded_after (deck_grid d) [] [] d.species

-- a particle of a deck: its species is one of the first so many, its position lies in the box, and it
-- isn't too fast on any axis
pub record IsPlaced (grid : Grid) (kinds : ℕ) (particle : Particle) : Type 0 where
  pub species : particle.species < kinds
  pub place : IsInBox grid.side grid.n (triple particle.x)
  pub speed : (a : Axis) → IsAtMost (along a (spot particle.v)) (fastest grid.side)

-- a particle of a deck
abbrev pub IsParticleOf : DeckView → Particle → Type 0
IsParticleOf d = IsPlaced (deck_grid d) (length d.species)

-- the particles of a deck: as many as its species have, no more than its version allows, with the
-- identities 0, 1, 2 and so on
pub record AreLoaded (d : DeckView) (particles : List Particle) : Type 0 where
  pub count : length particles ≡ particles_of d.species
  pub few : length particles ≤ (allowance_of d.version).particles
  pub identities : map (λ particle. particle.id) particles ≡ range_with_len 0 (length particles)
  pub each : All (IsParticleOf d) particles
