-- The tests of a whole deck, in their order, of which the first that fails is the refusal.
use Rattle.std.specs.Prelude.{◌≡◌, ◌↔◌, ℕ, ℤ, pos, neg_ℤ, ◌==◌, ◌^◌, ◌<◌, ◌≤◌, unsigned_abs, is_none, List, [], ◌∷◌, ◌++◌, length, codes}
use Rattle.std.specs.Prelude.{slice_index_or, if◌then◌else◌, Option, None, Some, Err}
use Rattle.toml.specs.Data.{Data, Items, no_items, item, Members, get_member}
use Rattle.pic_num.specs.Limits.{most_force, allowance_of}
use Rattle.pic_num.specs.Multiplier.{Multiplier}
use Rattle.pic_num.specs.Space.{Triple, triple, spot}
use Rattle.pic_walk.specs.declared.fault.Fault.{Fault}
use Rattle.pic_walk.specs.declared.fault.Fault.TheVariants.{Limit}
use Rattle.pic_walk.specs.declared.row.Row.{Row}
use Rattle.pic_walk.specs.Bounds.{most_bytes}
use Rattle.pic_walk.specs.Path.{key_at}
use Rattle.pic_walk.specs.Rows.{row_from}
use Rattle.pic_walk.specs.Terms.{TermsView}
use Rattle.pic_deck.specs.declared.refusal.Refusal.{Refusal}
use Rattle.pic_deck.specs.declared.refusal.Refusal.TheVariants.{Text}
use Rattle.pic_deck.specs.Initial.{set_up, first_strong}
use Rattle.pic_deck.specs.Keys.{deck_keys, zeros, deck}
use Rattle.pic_deck.specs.Reading.{document, too_long, walk}
use Rattle.pic_deck.specs.Refusal.{refusal_of}
use Rattle.pic_deck_laws.specs.DriveTable.{drive_tests}
use Rattle.pic_deck_laws.specs.FieldTable.{field_tests}
use Rattle.pic_deck_laws.specs.FillTests.{Known}
use Rattle.pic_deck_laws.specs.ProbeTable.{probe_tests}
use Rattle.pic_deck_laws.specs.SettingsTables.{said_version, settings_tests}
use Rattle.pic_deck_laws.specs.SpeciesTests.{known_of, particles_in, species_tests}
use Rattle.pic_deck_laws.specs.Tests.{Test, test, IsFirstFault, MakesTests}
use Rattle.pic_deck_laws.specs.ValueTests.{number_of, items_of, members_of, sizes_of, value_at, listed_tests, optional_tests}

-- the numbers among some elements
abbrev pub numbers_of : Items → List ℤ
numbers_of no_items = []
numbers_of (item d ds) = number_of d ∷ numbers_of ds

-- the rows among them
abbrev pub rows_of : Items → List Row
rows_of no_items = []
rows_of (item d ds) = row_from (numbers_of (items_of d)) ∷ rows_of ds

-- the table at a key of a document
abbrev pub table_in : List ℕ → Members → Members
table_in key ms = members_of (value_at key ms)

-- the cells, the side of a cell, and what the limits go by
abbrev pub said_cells : Members → Triple
said_cells ms = triple (sizes_of (items_of (value_at (codes "cells") (table_in (codes "grid") ms))))

abbrev pub said_side : Members → ℕ
said_side ms =
    if said_version ms == 1 then 2 ^ (allowance_of 1).least_bits
    else 2 ^ unsigned_abs (number_of (value_at (codes "sub") (table_in (codes "grid") ms)))

abbrev pub said_terms : Members → TermsView
said_terms ms = record { version = said_version ms; grid = record { n = said_cells ms; side = said_side ms } }

-- a multiplier of the fields
abbrev pub multiplier_of : List ℤ → Multiplier
multiplier_of zs = record { n = slice_index_or zs 0 (pos 0); k = unsigned_abs (slice_index_or zs 1 (pos 0)) }

abbrev pub said_scale : List ℕ → Members → Multiplier
said_scale key ms = multiplier_of (numbers_of (items_of (value_at key (table_in (codes "scale") ms))))

-- a uniform part of a field, 0 where it isn't there, and its rows
abbrev pub or_zeros : Option Data → List ℤ
or_zeros None = zeros
or_zeros (Some d) = numbers_of (items_of d)

abbrev pub said_uniform : List ℕ → Members → List ℤ
said_uniform key ms = or_zeros (get_member key (table_in (codes "field") ms))

abbrev pub said_rows : List ℕ → Members → List Row
said_rows key ms = rows_of (items_of (value_at key (table_in (codes "field") ms)))

-- what is known of the species among some elements, after earlier ones
abbrev pub all_known : ℕ → List Known → Items → List Known
all_known version known no_items = known
all_known version known (item d ds) = all_known version (known ++ known_of version known (members_of d) ∷ []) ds

-- how many particles there are
abbrev pub said_particles : Members → ℕ
said_particles ms = particles_in (all_known (said_version ms) [] (items_of (value_at (codes "species") ms)))

-- what drives the run, and what watches it: in version 1 their keys are unknown
unfoldable pub device_tests : ℕ → Triple → ℕ → Members → List Test
device_tests version n particles ms =
    if version == 1 then []
    else optional_tests (drive_tests n) (codes "drive") [] ms ++ optional_tests (probe_tests n particles) (codes "probe") [] ms

abbrev pub or_nought : Option ℤ → ℤ
or_nought None = pos 0
or_nought (Some z) = z

-- no force value is too large, or that of the least place which has one
unfoldable pub force_test : List ℕ → Option ℤ → Test
force_test key o = test (is_none o) (Limit (key_at (codes "scale") key) (or_nought o) (neg_ℤ (pos most_force)) (pos most_force))

-- the force values of E, and then those of B
unfoldable pub force_tests : Members → List Test
force_tests ms =
    force_test (codes "e_force") (first_strong (said_cells ms) (said_scale (codes "e_force") ms)
    (set_up (spot (said_uniform (codes "e") ms)) (said_rows (codes "edges") ms)))
    ∷ force_test (codes "b_force") (first_strong (said_cells ms) (said_scale (codes "b_force") ms)
    (set_up (spot (said_uniform (codes "b") ms)) (said_rows (codes "faces") ms)))
    ∷ []

-- all tests of a document
unfoldable pub deck_tests : Members → List Test
deck_tests ms =
    listed_tests (deck_keys ms) [] ms
    ++ (settings_tests ms
    ++ (optional_tests (field_tests (said_cells ms)) (codes "field") [] ms
    ++ (optional_tests (species_tests (said_terms ms)) (codes "species") [] ms
    ++ (device_tests (said_version ms) (said_cells ms) (said_particles ms) ms
    ++ force_tests ms))))

-- the walk of a document makes these tests
abbrev pub DecksAreTested : Type 0
DecksAreTested = (ms : Members) → MakesTests (deck_tests ms) (deck ms)

-- why bytes are refused: there are too many, they are no document, or a test of the document fails, all
-- before which hold
pub data IsRefusalOf (bytes : List ℕ) (r : Refusal) : Type 0 where
  too_many : most_bytes < length bytes → r ≡ too_long (length bytes) → IsRefusalOf bytes r
  no_text : length bytes ≤ most_bytes → document bytes ≡ None → r ≡ Text → IsRefusalOf bytes r
  failed : length bytes ≤ most_bytes → (ms : Members) → document bytes ≡ Some ms → (fault : Fault) → IsFirstFault (deck_tests ms) fault
      → r ≡ refusal_of fault → IsRefusalOf bytes r

-- bytes are refused exactly so
abbrev pub DecksAreRefused : Type 0
DecksAreRefused = (bytes : List ℕ) (r : Refusal) → (walk bytes ≡ Err r) ↔ IsRefusalOf bytes r
