-- A whole deck, with no walk from key to key: what a document spells where it is accepted, and which bytes
-- are a deck.
use Rattle.std.specs.Prelude.{◌≡◌, ◌≢◌, ◌↔◌, ◌⊎◌, ℕ, ◌≤◌, List, [], length, codes, Some, Ok}
use Rattle.toml.specs.Data.{Data, Members}
use Rattle.pic_num.specs.Space.{Triple, spot}
use Rattle.pic_walk.specs.Bounds.{most_bytes}
use Rattle.pic_devices.specs.declared.devices.Devices.{Devices}
use Rattle.pic_devices.specs.Devices.{no_devices}
use Rattle.pic_devices.specs.Probes.{no_probes}
use Rattle.pic_settings.specs.declared.settings.Settings.{Settings}
use Rattle.pic_deck.specs.declared.fields.InitialFields.{InitialFields}
use Rattle.pic_deck.specs.declared.species.Species.{Species}
use Rattle.pic_deck.specs.Deck.{DeckView, deck_view, terms_of}
use Rattle.pic_deck.specs.Initial.{set_up, AreWeak}
use Rattle.pic_deck.specs.Keys.{deck_keys, no_field, deck}
use Rattle.pic_deck.specs.Reading.{document, walk}
use Rattle.pic_deck.specs.Species.{particles_of}
use Rattle.pic_deck_laws.specs.DriveTable.{AreLoopTables}
use Rattle.pic_deck_laws.specs.FieldTable.{IsFieldTable}
use Rattle.pic_deck_laws.specs.ProbeTable.{IsProbeTable}
use Rattle.pic_deck_laws.specs.SettingsTables.{SpellsSettings}
use Rattle.pic_deck_laws.specs.SpeciesTable.{AreSpeciesTables}
use Rattle.pic_deck_laws.specs.Spelling.{Lacks, HasOnly, HasSuch, IsTable}

-- a document has at the key a value that spells this, or it has no such key and this is the default
abbrev pub HasOr : {A : Type 0} → Members → List ℕ → (Data → A → Type 0) → A → A → Type 0
HasOr ms key Spells default a = HasSuch ms key (λ d. Spells d a) ⊎ (Lacks ms key × (a ≡ default))

-- what drives a run with n cells and so many particles, and what watches it: in version 1 nothing
pub record SpellsDevices (version : ℕ) (n : Triple) (particles : ℕ) (ms : Members) (ds : Devices) : Type 0 where
  pub none : version ≡ 1 → ds ≡ no_devices
  pub loops : version ≢ 1 → HasOr ms (codes "drive") (AreLoopTables n) [] ds.loops
  pub probes : version ≢ 1
      → HasOr ms (codes "probe") (λ d p. IsTable d (λ t. IsProbeTable n particles t p)) no_probes ds.probes

-- no force value of E is too large, and none of B
pub record AreMild (s : Settings) (f : InitialFields) : Type 0 where
  pub e : AreWeak s.cells.n s.scales.e_force (set_up (spot f.e) f.edges)
  pub b : AreWeak s.cells.n s.scales.b_force (set_up (spot f.b) f.faces)

-- a document spells a deck: its settings, its field, its species and its devices, and it has no other keys
pub record SpellsDeck (ms : Members) (d : DeckView) : Type 0 where
  pub settings : Settings
  pub field : InitialFields
  pub species : List Species
  pub devices : Devices
  pub keys : HasOnly (deck_keys ms) ms
  pub sets : SpellsSettings ms settings
  pub begins : HasOr ms (codes "field") (λ v f. IsTable v (λ t. IsFieldTable settings.cells.n t f)) no_field field
  pub holds : HasOr ms (codes "species") (AreSpeciesTables (terms_of settings)) [] species
  pub moves : SpellsDevices settings.version settings.cells.n (particles_of species) ms devices
  pub mild : AreMild settings field
  pub deck : d ≡ deck_view settings field species devices

-- a deck is that of a document exactly where the document spells it
abbrev pub DecksAreSpelled : Type 0
DecksAreSpelled = (ms : Members) (d : DeckView) → (deck ms ≡ Ok d) ↔ SpellsDeck ms d

-- bytes are a deck: not too many, a TOML document in UTF-8, and one that spells it
pub record AreDeck (bytes : List ℕ) (d : DeckView) : Type 0 where
  pub few : length bytes ≤ most_bytes
  pub members : Members
  pub document : document bytes ≡ Some members
  pub spells : SpellsDeck members d

-- bytes are accepted with a deck exactly where they are that deck
abbrev pub DecksAreRead : Type 0
DecksAreRead = (bytes : List ℕ) (d : DeckView) → (walk bytes ≡ Ok d) ↔ AreDeck bytes d
