-- The tests of the species of a deck, in their order, of which the first that fails is the refusal.
use Rattle.std.specs.Prelude.{ℕ, zero, suc, pos, ◌+◌, ◌&&◌, not, bytes_eq, is_some, sum_by, List, [], ◌∷◌, ◌++◌, codes}
use Rattle.std.specs.List.{list_any}
use Rattle.toml.specs.Data.{Data, Items, no_items, item, Members, as_str, as_array}
use Rattle.pic_num.specs.Limits.{most_species, most_mass, least_charge, greatest_charge, allowance_of}
use Rattle.pic_walk.specs.declared.fault.Fault.TheVariants.{Kind, Name}
use Rattle.pic_walk.specs.FillKind.{source_key}
use Rattle.pic_walk.specs.Limits.{from_to}
use Rattle.pic_walk.specs.Path.{element_at}
use Rattle.pic_walk.specs.Terms.{TermsView}
use Rattle.pic_walk.specs.Walk.{multiplier_limits}
use Rattle.pic_deck.specs.Keys.{species_keys, species_list}
use Rattle.pic_deck.specs.Species.{is_name}
use Rattle.pic_walk.specs.Extent.{extent_of, IsExtent}
use Rattle.pic_deck_laws.specs.FillTests.{Known, text_of, source_in, fill_tests, said_count}
use Rattle.pic_deck_laws.specs.Tests.{Test, test, MakesTests}
use Rattle.pic_deck_laws.specs.ValueTests.{number_of, items_of, members_of, value_at}
use Rattle.pic_deck_laws.specs.ValueTests.{limit_test, number_tests, numbers_tests, count_test, table_tests, needed_tests}

-- a name that no earlier species has
unfoldable pub name_tests : List Known → List ℕ → Data → List Test
name_tests known path d =
    test (is_some (as_str d)) (Kind path)
    ∷ test (is_name (text_of d) && not (list_any (λ o. bytes_eq o.name (text_of d)) known)) (Name path)
    ∷ []

-- what the particles of a species have in common
unfoldable pub kind_tests : List ℕ → Members → List Test
kind_tests path t =
    needed_tests (number_tests (from_to least_charge greatest_charge)) (codes "charge") path t
    ++ (needed_tests (number_tests (from_to (pos 1) (pos most_mass))) (codes "mass") path t
    ++ (needed_tests (numbers_tests multiplier_limits) (codes "kick") path t
    ++ needed_tests (numbers_tests multiplier_limits) (codes "turn") path t))

-- how many particles a table says, after earlier species
abbrev pub count_in : ℕ → List Known → Members → ℕ
count_in version known t = said_count (source_in version t) known (value_at (source_key (source_in version t)) t)

-- how many particles some species have
abbrev pub particles_in : List Known → ℕ
particles_in known = sum_by (λ k. k.count) known

-- the particles of a species and those of earlier ones together
unfoldable pub particles_test : ℕ → List Known → List ℕ → Members → Test
particles_test version known path t =
    limit_test (from_to (pos 0) (pos (allowance_of version).particles)) path (pos (particles_in known + count_in version known t))

-- the keys of a species after earlier ones
unfoldable pub species_key_tests : TermsView → List Known → List ℕ → Members → List Test
species_key_tests terms known path t =
    needed_tests (name_tests known) (codes "name") path t
    ++ (kind_tests path t
    ++ (fill_tests terms known path (number_of (value_at (codes "charge") t)) t
    ++ (particles_test terms.version known path t ∷ [])))

-- a species after earlier ones
unfoldable pub one_species_tests : TermsView → List Known → List ℕ → Data → List Test
one_species_tests terms known path d =
    table_tests (species_keys terms.version) path d ++ species_key_tests terms known path (members_of d)

-- what the table of a species says, after earlier ones
abbrev pub known_of : ℕ → List Known → Members → Known
known_of version known t = record {
  name = text_of (value_at (codes "name") t);
  charge = number_of (value_at (codes "charge") t);
  count = count_in version known t;
}

-- the species one after another, from the number i on
unfoldable pub each_species_tests : TermsView → List Known → List ℕ → ℕ → Items → List Test
each_species_tests terms known path i no_items = []
each_species_tests terms known path i (item d ds) =
    one_species_tests terms known (element_at path i) d
    ++ each_species_tests terms (known ++ known_of terms.version known (members_of d) ∷ []) path (suc i) ds

-- how many species there are, and then each
unfoldable pub species_tests : TermsView → List ℕ → Data → List Test
species_tests terms path d =
    test (is_some (as_array d)) (Kind path)
    ∷ count_test (from_to (pos 0) (pos most_species)) path d
    ∷ each_species_tests terms [] path zero (items_of d)

-- in the box of a grid, the walk of the species makes these tests
abbrev pub SpeciesAreTested : Type 0
SpeciesAreTested =
    (terms : TermsView) → IsExtent (extent_of terms.grid) → (path : List ℕ) (d : Data)
    → MakesTests (species_tests terms path d) (species_list terms path d)
