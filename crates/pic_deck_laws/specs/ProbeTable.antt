-- The table `probe` of a deck, with no walk from key to key: what it spells where it is accepted, and the
-- tests of it in their order, of which the first that fails is the refusal.
use Rattle.std.specs.Prelude.{◌≡◌, ◌↔◌, ◌⊎◌, ℕ, pos, ◌<◌, ◌≤◌, All, List, [], ◌++◌, length, codes, Ok}
use Rattle.toml.specs.Data.{Data, Members}
use Rattle.pic_num.specs.Space.{Triple}
use Rattle.pic_block.specs.Cells.{IsCells}
use Rattle.pic_walk.specs.Limits.{from_to}
use Rattle.pic_devices.specs.declared.place.Place.{Place}
use Rattle.pic_devices.specs.declared.probes.Probes.{Probes}
use Rattle.pic_devices.specs.Probes.{most_places, most_ids, probe_keys, place_limits, id_limits, probes}
use Rattle.pic_deck_laws.specs.NumberRows.{place_numbers, rows, IsWatched}
use Rattle.pic_deck_laws.specs.Spelling.{naturals, Has, Lacks, HasOnly, IsTable}
use Rattle.pic_deck_laws.specs.Tests.{Test, MakesTests}
use Rattle.pic_deck_laws.specs.ValueTests.{members_of, number_tests, numbers_tests, counted_tests, table_tests, optional_tests}

-- a table spells these places, none where the key isn't there
abbrev pub HasPlaces : Members → List Place → Type 0
HasPlaces t ps = Has t (codes "places") (rows place_numbers ps) ⊎ (Lacks t (codes "places") × (ps ≡ []))

-- and these identities
abbrev pub HasIds : Members → List ℕ → Type 0
HasIds t ids = Has t (codes "ids") (naturals ids) ⊎ (Lacks t (codes "ids") × (ids ≡ []))

-- a table spells the probes of a run with n cells and so many particles, and has nothing else; they are within
-- their limits
pub record IsProbeTable (n : Triple) (particles : ℕ) (t : Members) (p : Probes) : Type 0 where
  pub keys : HasOnly probe_keys t
  pub places : HasPlaces t p.places
  pub ids : HasIds t p.ids
  pub watched : All (IsWatched n) p.places
  pub few_places : length p.places ≤ most_places
  pub followed : All (λ i. i < particles) p.ids
  pub few_ids : length p.ids ≤ most_ids

-- on the cells of a grid, probes are accepted exactly where the value is a table that spells them
abbrev pub ProbesAreSpelled : Type 0
ProbesAreSpelled =
    (n : Triple) → IsCells n → (particles : ℕ) (path : List ℕ) (d : Data) (p : Probes)
    → (probes n particles path d ≡ Ok p) ↔ IsTable d (λ t. IsProbeTable n particles t p)

-- the places
unfoldable pub places_tests : Triple → List ℕ → Data → List Test
places_tests n path d = counted_tests (from_to (pos 0) (pos most_places)) (λ _. numbers_tests (place_limits n)) path d

-- the identities
unfoldable pub ids_tests : ℕ → List ℕ → Data → List Test
ids_tests particles path d = counted_tests (from_to (pos 0) (pos most_ids)) (λ _. number_tests (id_limits particles)) path d

-- the keys of a table `probe`
unfoldable pub probe_key_tests : Triple → ℕ → List ℕ → Members → List Test
probe_key_tests n particles path t =
    optional_tests (places_tests n) (codes "places") path t ++ optional_tests (ids_tests particles) (codes "ids") path t

-- the table `probe`
unfoldable pub probe_tests : Triple → ℕ → List ℕ → Data → List Test
probe_tests n particles path d = table_tests probe_keys path d ++ probe_key_tests n particles path (members_of d)

-- the walk of the probes makes these tests
abbrev pub ProbesAreTested : Type 0
ProbesAreTested =
    (n : Triple) (particles : ℕ) (path : List ℕ) (d : Data)
    → MakesTests (probe_tests n particles path d) (probes n particles path d)
