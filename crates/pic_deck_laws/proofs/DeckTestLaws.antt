-- The walk of a whole deck makes its tests.
use Rattle.std.proofs.Common.{◌≡◌, ◌≢◌, ℕ, suc, ℤ, pos, ◌<◌, ◌==◌, ◌^◌, ap₂, slice_index_or, true, false, map}
use Rattle.std.proofs.Common.{List, [], ◌∷◌, ◌++◌, length, Option, Some, None, Ok, refl, sym, ap, ◌∙◌, subst}
use Rattle.std.proofs.Common.{unsigned_abs, inl, inr, arith}
use Rattle.std.specs.Prelude.{codes, if◌then◌else◌}
use Rattle.std.proofs.lemmas.Bool.{cases_eq}
use Rattle.std.proofs.lemmas.Bool.Decides.{nat_tests}
use Rattle.toml.specs.Data.{Data, integer, table, Items, no_items, item, Members, no_members, get_member}
use Rattle.pic_num.specs.Limits.{allowance_of}
use Rattle.pic_num.specs.Multiplier.{Multiplier}
use Rattle.pic_num.specs.Space.{Triple, triple, spot}
use Rattle.pic_num.specs.Sub.{bits_of}
use Rattle.pic_num.specs.Versions.{IsSideOf}
use Rattle.pic_num.proofs.VersionLaws.{side_of_version_1}
use Rattle.pic_block.specs.Cells.{IsCells}
use Rattle.pic_walk.specs.declared.row.Row.{Row}
use Rattle.pic_walk.specs.Extent.{extent_of, IsExtent}
use Rattle.pic_walk.specs.Path.{key_at, element_at}
use Rattle.pic_walk.specs.Rows.{row_from}
use Rattle.pic_walk.specs.Terms.{TermsView}
use Rattle.pic_walk.specs.Walk.{each, optional}
use Rattle.pic_walk.proofs.WalkLaws.{went}
use Rattle.pic_devices.specs.Devices.{no_devices}
use Rattle.pic_devices.specs.Probes.{no_probes}
use Rattle.pic_settings.specs.declared.settings.Settings.{Settings}
use Rattle.pic_deck.specs.declared.fields.InitialFields.{InitialFields}
use Rattle.pic_deck.specs.declared.species.Species.{Species}
use Rattle.pic_deck.specs.Deck.{terms_of}
use Rattle.pic_deck.specs.Initial.{set_up, first_strong}
use Rattle.pic_deck.specs.Keys.{deck_keys, no_field, fields, one_species, species_list, force_allowed, forces, devices, deck}
use Rattle.pic_deck.specs.Species.{particles_of}
use Rattle.pic_deck_laws.specs.DeckTests.{numbers_of, rows_of, table_in, said_cells, said_side, said_terms, multiplier_of, said_scale, or_zeros}
use Rattle.pic_deck_laws.specs.DeckTests.{said_uniform, said_rows, all_known, said_particles}
use Rattle.pic_deck_laws.specs.DeckTests.{device_tests, force_test, force_tests, deck_tests, DecksAreTested}
use Rattle.pic_deck_laws.specs.FieldTable.{IsFieldTable, HasRows, HasUniform, field_tests}
use Rattle.pic_deck_laws.specs.FillTests.{Known}
use Rattle.pic_deck_laws.specs.NumberRows.{row_numbers, IsFieldRow}
use Rattle.pic_deck_laws.specs.ScaleTable.{HasMultiplier}
use Rattle.pic_deck_laws.specs.SettingsTables.{SpellsSettings, said_version, settings_tests}
use Rattle.pic_deck_laws.specs.SpeciesTests.{particles_in, species_tests}
use Rattle.pic_deck_laws.specs.Spelling.{spelled, integers, Has, Lacks, IsTable}
use Rattle.pic_deck_laws.specs.Tests.{Test}
use Rattle.pic_deck_laws.specs.ValueTests.{number_of, items_of, members_of, sizes_of, or_empty, value_at, optional_tests}
use Rattle.pic_deck_laws.proofs.TestLaws.{Along, makes_tests, then_along, last_along, branch_along}
use Rattle.pic_deck_laws.proofs.WalkTests.{listed_along, optional_along}
use Rattle.pic_deck_laws.proofs.ValueLaws.{listed_ok, optional_ok, sizes_spelled}
use Rattle.pic_deck_laws.proofs.ListLaws.{elements_is}
use Rattle.pic_deck_laws.proofs.NumberRowLaws.{row_back}
use Rattle.pic_deck_laws.proofs.DriveLaws.{drive_along}
use Rattle.pic_deck_laws.proofs.ProbeLaws.{probes_along}
use Rattle.pic_deck_laws.proofs.FieldLaws.{fields_are_spelled, fields_along}
use Rattle.pic_deck_laws.proofs.SettingsLaws.{settings_are_spelled, settings_along}
use Rattle.pic_deck_laws.proofs.SpeciesTestLaws.{known_more, particles_known, species_along}
use Rattle.pic_deck_laws.proofs.FillTestLaws.{known_by}
use Rattle.pic_deck_laws.proofs.DeckLaws.{cells_of, box_of, or_ok, deck_walk}

-- Look-ups of what is spelled
numbers_spelled : (zs : List ℤ) → numbers_of (spelled integer zs) ≡ zs
numbers_spelled [] = refl
numbers_spelled (z ∷ zs) = ap (λ (ys : List ℤ). z ∷ ys) (numbers_spelled zs)

table_is : (key : List ℕ) (ms t : Members) → Has ms key (table t) → table_in key ms ≡ t
table_is key ms t has = ap (λ (o : Option Data). members_of (or_empty o)) has

version_is : (ms : Members) (s : Settings) → SpellsSettings ms s → said_version ms ≡ s.version
version_is ms s is = ap (λ (o : Option Data). unsigned_abs (number_of (or_empty o))) is.version

cells_is : (ms : Members) (s : Settings) → SpellsSettings ms s → said_cells ms ≡ s.cells.n
cells_is ms s is =
    let t = is.grid.members in
    ap (λ (u : Members). triple (sizes_of (items_of (value_at (codes "cells") u)))) (table_is (codes "grid") ms t is.grid.there)
    ∙ ap (λ (o : Option Data). triple (sizes_of (items_of (or_empty o)))) is.grid.holds.cells
    ∙ ap triple (sizes_spelled (s.cells.n.x ∷ s.cells.n.y ∷ s.cells.n.z ∷ []))

abbrev side_by : ℕ → ℕ → ℕ
side_by version bits = if version == 1 then 2 ^ (allowance_of 1).least_bits else 2 ^ bits

side_by_is : (version : ℕ) (t : Members) (side : ℕ) → IsSideOf version side → (version ≢ 1 → Has t (codes "sub") (integer (pos (bits_of side))))
    → side_by version (unsigned_abs (number_of (value_at (codes "sub") t))) ≡ side
side_by_is version t side is sub = elim (cases_eq version 1) [
  | inl one ↦
      (let same : (version == 1) ≡ true = grind (arith, nat_tests) in
      ap (λ b. if b then 2 ^ (allowance_of 1).least_bits else 2 ^ unsigned_abs (number_of (value_at (codes "sub") t))) same
      ∙ sym (side_of_version_1 side (subst (λ (v : ℕ). IsSideOf v side) one is)))
  | inr further ↦
      (let other : (version == 1) ≡ false = grind (arith, nat_tests) in
      ap (λ b. if b then 2 ^ (allowance_of 1).least_bits else 2 ^ unsigned_abs (number_of (value_at (codes "sub") t))) other
      ∙ ap (λ (o : Option Data). 2 ^ unsigned_abs (number_of (or_empty o))) (sub further)
      ∙ sym is.power)
]

side_is : (ms : Members) (s : Settings) → SpellsSettings ms s → said_side ms ≡ s.cells.side
side_is ms s is =
    let t = is.grid.members in
    let holds = is.grid.holds in
    ap (λ (v : ℕ). side_by v (unsigned_abs (number_of (value_at (codes "sub") (table_in (codes "grid") ms))))) (version_is ms s is)
    ∙ ap (λ (u : Members). side_by s.version (unsigned_abs (number_of (value_at (codes "sub") u)))) (table_is (codes "grid") ms t is.grid.there)
    ∙ side_by_is s.version t s.cells.side holds.allowed.sides holds.sub

terms_is : (ms : Members) (s : Settings) → SpellsSettings ms s → said_terms ms ≡ terms_of s
terms_is ms s is =
    let version = version_is ms s is in
    let cells = cells_is ms s is in
    let side = side_is ms s is in
    λ i. record { version = version i; grid = record { n = cells i; side = side i } }

multiplier_is : (key : List ℕ) (ms t : Members) (m : Multiplier) → Has ms (codes "scale") (table t) → HasMultiplier t key m → said_scale key ms ≡ m
multiplier_is key ms t m there has =
    ap (λ (u : Members). multiplier_of (numbers_of (items_of (value_at key u)))) (table_is (codes "scale") ms t there)
    ∙ ap (λ (o : Option Data). multiplier_of (numbers_of (items_of (or_empty o)))) has.there
    ∙ ap multiplier_of (numbers_spelled (m.n ∷ pos m.k ∷ []))

-- The fields
uniform_is : (key : List ℕ) (t : Members) (u : List ℤ) → HasUniform t key u → or_zeros (get_member key t) ≡ u
uniform_is key t u is = elim is.there [
  | inl has ↦ ap or_zeros has ∙ numbers_spelled u
  | inr lacks ↦ ap or_zeros lacks.0 ∙ sym lacks.1
]

rows_spelled : (n : Triple) (rs : List Row) → ((k : ℕ) (d : Row) → k < length rs → IsFieldRow n (slice_index_or rs k d))
    → rows_of (spelled (λ r. integers (row_numbers r)) rs) ≡ rs
rows_spelled n [] all = refl
rows_spelled n (r ∷ rs) all =
    ap₂ (λ (x : Row) (xs : List Row). x ∷ xs) (ap row_from (numbers_spelled (row_numbers r)) ∙ row_back n r (all 0 r (omega arith)))
    (rows_spelled n rs (λ k d h. all (suc k) d (omega (arith, h))))

rows_is : (n : Triple) (key : List ℕ) (t : Members) (rs : List Row) → HasRows n t key rs → rows_of (items_of (value_at key t)) ≡ rs
rows_is n key t rs is = elim is.there [
  | inl has ↦ ap (λ (o : Option Data). rows_of (items_of (or_empty o))) has ∙ rows_spelled n rs is.allowed
  | inr lacks ↦ ap (λ (o : Option Data). rows_of (items_of (or_empty o))) lacks.0 ∙ sym lacks.1
]

pub record FieldSaid (ms : Members) (f : InitialFields) : Type 0 where
  pub e : said_uniform (codes "e") ms ≡ f.e
  pub b : said_uniform (codes "b") ms ≡ f.b
  pub edges : said_rows (codes "edges") ms ≡ f.edges
  pub faces : said_rows (codes "faces") ms ≡ f.faces

field_of_table : (n : Triple) (ms t : Members) (f : InitialFields) → table_in (codes "field") ms ≡ t → IsFieldTable n t f → FieldSaid ms f
field_of_table n ms t f same is = record {
  e = ap (λ (u : Members). or_zeros (get_member (codes "e") u)) same ∙ uniform_is (codes "e") t f.e is.e;
  b = ap (λ (u : Members). or_zeros (get_member (codes "b") u)) same ∙ uniform_is (codes "b") t f.b is.b;
  edges = ap (λ (u : Members). rows_of (items_of (value_at (codes "edges") u))) same ∙ rows_is n (codes "edges") t f.edges is.edges;
  faces = ap (λ (u : Members). rows_of (items_of (value_at (codes "faces") u))) same ∙ rows_is n (codes "faces") t f.faces is.faces;
}

no_field_said : (ms : Members) → Lacks ms (codes "field") → FieldSaid ms no_field
no_field_said ms lacks =
    let same : table_in (codes "field") ms ≡ no_members = ap (λ (o : Option Data). members_of (or_empty o)) lacks in
    record {
      e = ap (λ (u : Members). or_zeros (get_member (codes "e") u)) same;
      b = ap (λ (u : Members). or_zeros (get_member (codes "b") u)) same;
      edges = ap (λ (u : Members). rows_of (items_of (value_at (codes "edges") u))) same;
      faces = ap (λ (u : Members). rows_of (items_of (value_at (codes "faces") u))) same;
    }

field_said : (n : Triple) → IsCells n → (ms : Members) (f : InitialFields) → optional no_field (fields n) (codes "field") [] ms ≡ Ok f → FieldSaid ms f
field_said n cells ms f e =
    elim (or_ok no_field (fields n) (λ v g. IsTable v (λ t. IsFieldTable n t g)) (fields_are_spelled n cells) (codes "field") ms f e) [
      | inl has ↦
          (let t = has.holds.members in
          field_of_table n ms t f (table_is (codes "field") ms t (has.there ∙ ap (λ x. Some x) has.holds.there)) has.holds.holds)
      | inr lacks ↦ subst (FieldSaid ms) (sym lacks.1) (no_field_said ms lacks.0)
    ]

-- The species
all_is : (t : TermsView) → IsExtent (extent_of t.grid) → (path : List ℕ) (done : List Species) (ds : Items) (ss : List Species)
    → each (one_species t) path done ds ≡ Ok ss → all_known t.version (map known_by done) ds ≡ map known_by ss
unfolding each
all_is t extent path done no_items ss e = ap (map known_by) (cc e)
all_is t extent path done (item d ds) ss e =
    let w = went _ _ _ e in
    ap (λ (ks : List Known). all_known t.version ks ds) (sym (known_more t extent done (element_at path (length done)) d w.value w.first))
    ∙ all_is t extent path (done ++ w.value ∷ []) ds ss w.then

species_all : (t : TermsView) → IsExtent (extent_of t.grid) → (path : List ℕ) (d : Data) (ss : List Species) → species_list t path d ≡ Ok ss
    → all_known t.version [] (items_of d) ≡ map known_by ss
unfolding species_list
species_all t extent path d ss e =
    let w = went _ _ _ e in
    let v = went _ _ _ w.then in
    ap (λ (x : Data). all_known t.version [] (items_of x)) (elements_is path d w.value w.first) ∙ all_is t extent path [] w.value ss v.then

particles_is : (t : TermsView) → IsExtent (extent_of t.grid) → (ms : Members) (ss : List Species)
    → optional [] (species_list t) (codes "species") [] ms ≡ Ok ss
    → particles_in (all_known t.version [] (items_of (value_at (codes "species") ms))) ≡ particles_of ss
particles_is t extent ms ss e = elim (optional_ok [] (species_list t) (codes "species") [] ms ss e) [
  | inl has ↦
      ap (λ (o : Option Data). particles_in (all_known t.version [] (items_of (or_empty o)))) has.1
      ∙ ap particles_in (species_all t extent _ has.0 ss has.2)
      ∙ particles_known ss
  | inr lacks ↦
      ap (λ (o : Option Data). particles_in (all_known t.version [] (items_of (or_empty o)))) lacks.0
      ∙ ap particles_of lacks.1
]

-- The tests
devices_along : (t : TermsView) (particles : ℕ) (ms : Members) → Along (device_tests t.version t.grid.n particles ms) (devices t particles ms)
unfolding devices device_tests
devices_along t particles ms =
    branch_along (t.version == 1) no_devices
    (then_along _ _ (optional_along [] _ _ (drive_along t.grid.n) (codes "drive") [] ms)
    (λ loops _. last_along _ _ (optional_along no_probes _ _ (probes_along t.grid.n particles) (codes "probe") [] ms)))

allowed_along : (key : List ℕ) (o : Option ℤ) → Along (force_test key o ∷ []) (force_allowed (key_at (codes "scale") key) o)
unfolding force_allowed force_test
allowed_along key None = record { is = refl }
allowed_along key (Some f) = record { is = refl }

forces_along : (ms : Members) (s : Settings) (f : InitialFields) → SpellsSettings ms s → FieldSaid ms f → Along (force_tests ms) (forces s f)
unfolding forces force_tests
forces_along ms s f is said =
    let there = is.scale.there in
    let holds = is.scale.holds in
    let cells = cells_is ms s is in
    let e = multiplier_is (codes "e_force") ms is.scale.members s.scales.e_force there holds.e_force in
    let b = multiplier_is (codes "b_force") ms is.scale.members s.scales.b_force there holds.b_force in
    let first : Test = force_test (codes "e_force") (first_strong s.cells.n s.scales.e_force (set_up (spot f.e) f.edges)) in
    let second : Test = force_test (codes "b_force") (first_strong s.cells.n s.scales.b_force (set_up (spot f.b) f.faces)) in
    let same : force_tests ms ≡ first ∷ second ∷ [] =
    λ i. force_test (codes "e_force") (first_strong (cells i) (e i) (set_up (spot (said.e i)) (said.edges i)))
    ∷ force_test (codes "b_force") (first_strong (cells i) (b i) (set_up (spot (said.b i)) (said.faces i)))
    ∷ []
    in
    subst (λ (ts : List Test). Along ts (forces s f)) (sym same)
    (then_along {ts = first ∷ []} {us = second ∷ []} _ _ (allowed_along (codes "e_force") _) (λ _ _. allowed_along (codes "b_force") _))

fields_part : (ms : Members) (s : Settings) → SpellsSettings ms s
    → Along (optional_tests (field_tests (said_cells ms)) (codes "field") [] ms) (optional no_field (fields s.cells.n) (codes "field") [] ms)
fields_part ms s is =
    subst (λ (n : Triple). Along (optional_tests (field_tests n) (codes "field") [] ms) (optional no_field (fields s.cells.n) (codes "field") [] ms))
    (sym (cells_is ms s is)) (optional_along no_field _ _ (fields_along s.cells.n) (codes "field") [] ms)

species_part : (ms : Members) (s : Settings) → SpellsSettings ms s
    → Along (optional_tests (species_tests (said_terms ms)) (codes "species") [] ms) (optional [] (species_list (terms_of s)) (codes "species") [] ms)
species_part ms s is =
    subst (λ (t : TermsView). Along (optional_tests (species_tests t) (codes "species") [] ms)
    (optional [] (species_list (terms_of s)) (codes "species") [] ms))
    (sym (terms_is ms s is)) (optional_along [] _ _ (species_along (terms_of s) (box_of ms s is)) (codes "species") [] ms)

devices_part : (ms : Members) (s : Settings) (ss : List Species) → SpellsSettings ms s
    → optional [] (species_list (terms_of s)) (codes "species") [] ms ≡ Ok ss
    → Along (device_tests (said_version ms) (said_cells ms) (said_particles ms) ms) (devices (terms_of s) (particles_of ss) ms)
devices_part ms s ss is e =
    let version = version_is ms s is in
    let cells = cells_is ms s is in
    let particles : said_particles ms ≡ particles_of ss =
    ap (λ (v : ℕ). particles_in (all_known v [] (items_of (value_at (codes "species") ms)))) version
    ∙ particles_is (terms_of s) (box_of ms s is) ms ss e
    in
    let same : device_tests (said_version ms) (said_cells ms) (said_particles ms) ms ≡ device_tests s.version s.cells.n (particles_of ss) ms =
    λ i. device_tests (version i) (cells i) (particles i) ms
    in
    subst (λ (ts : List Test). Along ts (devices (terms_of s) (particles_of ss) ms)) (sym same) (devices_along (terms_of s) (particles_of ss) ms)

-- What comes behind the keys of the document
abbrev value_tests : Members → List Test
value_tests ms =
    settings_tests ms
    ++ (optional_tests (field_tests (said_cells ms)) (codes "field") [] ms
    ++ (optional_tests (species_tests (said_terms ms)) (codes "species") [] ms
    ++ (device_tests (said_version ms) (said_cells ms) (said_particles ms) ms
    ++ force_tests ms)))

values_along : (ms : Members) → Along (value_tests ms) (deck_walk ms)
values_along ms =
    then_along _ _ (settings_along ms)
    (λ s e. let is = (settings_are_spelled ms s).0 e in
    then_along _ _ (fields_part ms s is)
    (λ f has. then_along _ _ (species_part ms s is)
    (λ ss held. then_along _ _ (devices_part ms s ss is held)
    (λ ds _. last_along _ _ (forces_along ms s f is (field_said s.cells.n (cells_of ms s is) ms f has))))))

pub deck_along : (ms : Members) → Along (deck_tests ms) (deck ms)
unfolding deck deck_tests
deck_along ms =
    then_along _ _ (listed_along (deck_keys ms) [] ms)
    (λ t keys. subst (λ (u : Members). Along (value_tests ms) (deck_walk u)) (listed_ok (deck_keys ms) [] ms t keys).0 (values_along ms))

pub decks_are_tested : DecksAreTested
decks_are_tested ms = makes_tests _ _ (deck_along ms)
