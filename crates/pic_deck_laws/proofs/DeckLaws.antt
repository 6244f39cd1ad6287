-- A whole deck: a walk accepts it exactly where a document spells it.
use Rattle.std.proofs.Common.{◌≡◌, ◌≢◌, ℕ, ℤ, ◌*◌, ◌≤◌, ◌==◌, true, false, inl, inr, List, [], Option, Some, None, Ok, refl, sym, ap, ◌∙◌, subst, arith}
use Rattle.std.specs.Prelude.{◌↔◌, codes, if◌then◌else◌}
use Rattle.std.proofs.lemmas.Bool.{cases_eq}
use Rattle.std.proofs.lemmas.Bool.Decides.{nat_tests}
use Rattle.std.proofs.Math.Nat.{mul-le-mul}
use Rattle.toml.specs.Data.{Data, Members}
use Rattle.pic_num.specs.Limits.{most_cells_of_axis, least_side, most_side}
use Rattle.pic_num.specs.declared.axis.Axis.{Axis}
use Rattle.pic_num.specs.Multiplier.{Multiplier}
use Rattle.pic_num.specs.Space.{Triple}
use Rattle.pic_num.specs.Versions.{IsGridOf}
use Rattle.pic_num.proofs.VersionLaws.{side_least, side_most}
use Rattle.pic_block.specs.Cells.{Grid, IsCells}
use Rattle.pic_walk.specs.Extent.{extent_of, most_extent, IsExtent}
use Rattle.pic_walk.specs.Terms.{TermsView}
use Rattle.pic_walk.specs.Walk.{Walked, ◌>>=◌, optional}
use Rattle.pic_walk.proofs.WalkLaws.{then_ok, went}
use Rattle.pic_devices.specs.declared.devices.Devices.{Devices}
use Rattle.pic_devices.specs.Devices.{no_devices}
use Rattle.pic_devices.specs.Drive.{drive_list}
use Rattle.pic_devices.specs.Probes.{no_probes, probes}
use Rattle.pic_settings.specs.declared.settings.Settings.{Settings}
use Rattle.pic_settings.specs.Keys.{settings}
use Rattle.pic_deck.specs.declared.fields.InitialFields.{InitialFields}
use Rattle.pic_deck.specs.Initial.{first_strong, AreWeak}
use Rattle.pic_deck.specs.Deck.{DeckView, deck_view, terms_of}
use Rattle.pic_deck.specs.Keys.{deck_keys, no_field, fields, species_list, force_allowed, forces, devices, deck}
use Rattle.pic_deck.specs.Species.{particles_of}
use Rattle.pic_deck.proofs.ForceLaws.{weak_where, strong_finds, none_strong}
use Rattle.pic_deck_laws.specs.DeckTables.{HasOr, SpellsDevices, AreMild, SpellsDeck, DecksAreSpelled}
use Rattle.pic_deck_laws.specs.DriveTable.{AreLoopTables}
use Rattle.pic_deck_laws.specs.FieldTable.{IsFieldTable}
use Rattle.pic_deck_laws.specs.ProbeTable.{IsProbeTable}
use Rattle.pic_deck_laws.specs.SettingsTables.{SpellsSettings}
use Rattle.pic_deck_laws.specs.SpeciesTable.{AreSpeciesTables}
use Rattle.pic_deck_laws.specs.Spelling.{HasOnly, IsTable}
use Rattle.pic_deck_laws.proofs.ValueLaws.{listed_ok, listed_from, optional_ok, optional_from, optional_absent}
use Rattle.pic_deck_laws.proofs.DriveLaws.{loops_are_spelled}
use Rattle.pic_deck_laws.proofs.FieldLaws.{fields_are_spelled}
use Rattle.pic_deck_laws.proofs.ProbeLaws.{probes_are_spelled}
use Rattle.pic_deck_laws.proofs.SettingsLaws.{settings_are_spelled}
use Rattle.pic_deck_laws.proofs.SpeciesLaws.{species_are_spelled}

-- The box of a grid that a version allows
some_along : (n s : ℕ) → 1 ≤ n → least_side ≤ s → 1 ≤ n * s
some_along n s some least = omega (arith, mul-le-mul some least)

most_along : (n s : ℕ) → n ≤ most_cells_of_axis → s ≤ most_side → n * s ≤ most_extent
most_along n s few most = mul-le-mul few most

pub extent_is : (version : ℕ) (g : Grid) → IsCells g.n → IsGridOf version g.n g.side → IsExtent (extent_of g)
extent_is version g cells allowed =
    let least = side_least version g.side allowed.sides in
    let most = side_most version g.side allowed.sides in
    record {
      x_some = some_along g.n.x g.side (omega (arith, cells.x_least)) least;
      x_most = most_along g.n.x g.side cells.x_most most;
      y_some = some_along g.n.y g.side (omega (arith, cells.y_least)) least;
      y_most = most_along g.n.y g.side cells.y_most most;
      z_some = some_along g.n.z g.side (omega (arith, cells.z_least)) least;
      z_most = most_along g.n.z g.side cells.z_most most;
    }

pub cells_of : (ms : Members) (s : Settings) → SpellsSettings ms s → IsCells s.cells.n
cells_of ms s is = is.grid.holds.some

pub box_of : (ms : Members) (s : Settings) → SpellsSettings ms s → IsExtent (extent_of s.cells)
box_of ms s is = extent_is s.version s.cells is.grid.holds.some is.grid.holds.allowed

-- A value that may be there
pub or_ok : {A : Type 0} (default : A) (f : List ℕ → Data → Walked A) (Spells : Data → A → Type 0)
    → ((path : List ℕ) (d : Data) (a : A) → (f path d ≡ Ok a) ↔ Spells d a)
    → (key : List ℕ) (ms : Members) (a : A) → optional default f key [] ms ≡ Ok a → HasOr ms key Spells default a
or_ok default f Spells law key ms a e = elim (optional_ok default f key [] ms a e) [
  | inl has ↦ inl (record { value = has.0; there = has.1; holds = (law _ has.0 a).0 has.2 })
  | inr lacks ↦ inr (lacks.0, sym lacks.1)
]

pub or_from : {A : Type 0} (default : A) (f : List ℕ → Data → Walked A) (Spells : Data → A → Type 0)
    → ((path : List ℕ) (d : Data) (a : A) → (f path d ≡ Ok a) ↔ Spells d a)
    → (key : List ℕ) (ms : Members) (a : A) → HasOr ms key Spells default a → optional default f key [] ms ≡ Ok a
or_from default f Spells law key ms a has = elim has [
  | inl is ↦ optional_from default f key [] ms is.value a is.there ((law _ is.value a).1 is.holds)
  | inr lacks ↦ optional_absent default f key [] ms lacks.0 ∙ ap Ok (sym lacks.1)
]

-- Devices
abbrev device_walk : Triple → ℕ → Members → Walked Devices
device_walk n particles ms =
    optional [] (drive_list n) (codes "drive") [] ms
    >>= (λ loops. optional no_probes (probes n particles) (codes "probe") [] ms
    >>= (λ watched. Ok (record { loops = loops; probes = watched })))

devices_first : (t : TermsView) (particles : ℕ) (ms : Members) → t.version ≡ 1 → devices t particles ms ≡ Ok no_devices
unfolding devices
devices_first t particles ms one =
    let same : (t.version == 1) ≡ true = grind (arith, nat_tests) in
    ap (λ b. if b then Ok no_devices else device_walk t.grid.n particles ms) same

devices_further : (t : TermsView) (particles : ℕ) (ms : Members) → t.version ≢ 1 → devices t particles ms ≡ device_walk t.grid.n particles ms
unfolding devices
devices_further t particles ms further =
    let other : (t.version == 1) ≡ false = grind (arith, nat_tests) in
    ap (λ b. if b then Ok no_devices else device_walk t.grid.n particles ms) other

walked_devices : (version : ℕ) (n : Triple) → IsCells n → (particles : ℕ) (ms : Members) (ds : Devices) → version ≢ 1
    → device_walk n particles ms ≡ Ok ds → SpellsDevices version n particles ms ds
walked_devices version n cells particles ms ds further e =
    let a = went _ _ _ e in
    let b = went _ _ _ a.then in
    let made : Devices = record { loops = a.value; probes = b.value } in
    let same : made ≡ ds = cc b.then in
    subst (SpellsDevices version n particles ms) same (record {
      none = λ one. absurd (further one);
      loops = λ _. or_ok [] (drive_list n) (AreLoopTables n) (loops_are_spelled n cells) (codes "drive") ms a.value a.first;
      probes = λ _. or_ok no_probes (probes n particles) (λ d p. IsTable d (λ t. IsProbeTable n particles t p))
          (probes_are_spelled n cells particles) (codes "probe") ms b.value b.first;
    })

devices_ok : (t : TermsView) → IsCells t.grid.n → (particles : ℕ) (ms : Members) (ds : Devices) → devices t particles ms ≡ Ok ds
    → SpellsDevices t.version t.grid.n particles ms ds
devices_ok t cells particles ms ds e = elim (cases_eq t.version 1) [
  | inl one ↦
      (let same : no_devices ≡ ds = cc (sym (devices_first t particles ms one) ∙ e) in
      record { none = λ _. sym same; loops = λ further. absurd (further one); probes = λ further. absurd (further one) })
  | inr further ↦
      walked_devices t.version t.grid.n cells particles ms ds further (sym (devices_further t particles ms further) ∙ e)
]

devices_from : (t : TermsView) → IsCells t.grid.n → (particles : ℕ) (ms : Members) (ds : Devices)
    → SpellsDevices t.version t.grid.n particles ms ds → devices t particles ms ≡ Ok ds
devices_from t cells particles ms ds is = elim (cases_eq t.version 1) [
  | inl one ↦ devices_first t particles ms one ∙ ap Ok (sym (is.none one))
  | inr further ↦
      devices_further t particles ms further
      ∙ then_ok _ ds.loops _ (or_from [] (drive_list t.grid.n) (AreLoopTables t.grid.n)
      (loops_are_spelled t.grid.n cells) (codes "drive") ms ds.loops (is.loops further))
      ∙ then_ok _ ds.probes _ (or_from no_probes (probes t.grid.n particles) (λ d p. IsTable d (λ u. IsProbeTable t.grid.n particles u p))
      (probes_are_spelled t.grid.n cells particles) (codes "probe") ms ds.probes (is.probes further))
]

-- Forces
allowed_none : (path : List ℕ) (o : Option ℤ) → force_allowed path o ≡ Ok tt → o ≡ None
unfolding force_allowed
allowed_none path None e = refl
allowed_none path (Some f) e = absurd (cc e)

none_allowed : (path : List ℕ) (o : Option ℤ) → o ≡ None → force_allowed path o ≡ Ok tt
unfolding force_allowed
none_allowed path o none = ap (force_allowed path) none

none_large : (n : Triple) (by : Multiplier) (g : Axis → Triple → ℤ) → first_strong n by g ≡ None → AreWeak n by g
none_large n by g none = record { weak = λ a p w. weak_where by (g a p) ((strong_finds n by g).none none (a, p) w) }

large_none : (n : Triple) (by : Multiplier) (g : Axis → Triple → ℤ) → AreWeak n by g → first_strong n by g ≡ None
large_none n by g are = none_strong n by g are.weak

forces_ok : (s : Settings) (f : InitialFields) → forces s f ≡ Ok tt → AreMild s f
unfolding forces
forces_ok s f e =
    let w = went _ _ _ e in
    record { e = none_large _ _ _ (allowed_none _ _ w.first); b = none_large _ _ _ (allowed_none _ _ w.then) }

forces_from : (s : Settings) (f : InitialFields) → AreMild s f → forces s f ≡ Ok tt
unfolding forces
forces_from s f mild = then_ok _ tt _ (none_allowed _ _ (large_none _ _ _ mild.e)) ∙ none_allowed _ _ (large_none _ _ _ mild.b)

-- The document
-- what comes behind the keys of the document
abbrev pub deck_walk : Members → Walked DeckView
deck_walk t =
    settings t
    >>= (λ s. optional no_field (fields s.cells.n) (codes "field") [] t
    >>= (λ f. optional [] (species_list (terms_of s)) (codes "species") [] t
    >>= (λ ss. devices (terms_of s) (particles_of ss) t
    >>= (λ ds. forces s f
    >>= (λ _. Ok (deck_view s f ss ds))))))

values_ok : (ms : Members) (d : DeckView) → HasOnly (deck_keys ms) ms → deck_walk ms ≡ Ok d → SpellsDeck ms d
values_ok ms d keys e =
    let b = went _ _ _ e in
    let c = went _ _ _ b.then in
    let g = went _ _ _ c.then in
    let h = went _ _ _ g.then in
    let k = went _ _ _ h.then in
    let sets = (settings_are_spelled ms b.value).0 b.first in
    let cells = cells_of ms b.value sets in
    record {
      settings = b.value;
      field = c.value;
      species = g.value;
      devices = h.value;
      keys = keys;
      sets = sets;
      begins = or_ok no_field (fields b.value.cells.n) (λ v f. IsTable v (λ t. IsFieldTable b.value.cells.n t f))
          (fields_are_spelled b.value.cells.n cells) (codes "field") ms c.value c.first;
      holds = or_ok [] (species_list (terms_of b.value)) (AreSpeciesTables (terms_of b.value))
          (species_are_spelled (terms_of b.value) (box_of ms b.value sets)) (codes "species") ms g.value g.first;
      moves = devices_ok (terms_of b.value) cells (particles_of g.value) ms h.value h.first;
      mild = forces_ok b.value c.value k.first;
      deck = sym (cc k.then);
    }

deck_ok : (ms : Members) (d : DeckView) → deck ms ≡ Ok d → SpellsDeck ms d
unfolding deck
deck_ok ms d e =
    let a = went _ _ _ e in
    let keys = listed_ok (deck_keys ms) [] ms a.value a.first in
    let back : a.value ≡ ms = sym keys.0 in
    values_ok ms d (subst (HasOnly (deck_keys ms)) back keys.1) (subst (λ (t : Members). deck_walk t ≡ Ok d) back a.then)

deck_from : (ms : Members) (d : DeckView) → SpellsDeck ms d → deck ms ≡ Ok d
unfolding deck
deck_from ms d is =
    let s = is.settings in
    let cells = cells_of ms s is.sets in
    then_ok _ ms _ (listed_from (deck_keys ms) [] ms is.keys)
    ∙ then_ok _ s _ ((settings_are_spelled ms s).1 is.sets)
    ∙ then_ok _ is.field _ (or_from no_field (fields s.cells.n) (λ v f. IsTable v (λ t. IsFieldTable s.cells.n t f))
    (fields_are_spelled s.cells.n cells) (codes "field") ms is.field is.begins)
    ∙ then_ok _ is.species _ (or_from [] (species_list (terms_of s)) (AreSpeciesTables (terms_of s))
    (species_are_spelled (terms_of s) (box_of ms s is.sets)) (codes "species") ms is.species is.holds)
    ∙ then_ok _ is.devices _ (devices_from (terms_of s) cells (particles_of is.species) ms is.devices is.moves)
    ∙ then_ok _ tt _ (forces_from s is.field is.mild)
    ∙ ap Ok (sym is.deck)

pub decks_are_spelled : DecksAreSpelled
decks_are_spelled ms d = (deck_ok ms d, deck_from ms d)
