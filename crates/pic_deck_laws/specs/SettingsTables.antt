-- What a deck sets for its run, with no walk from key to key: what the document spells where it is accepted,
-- and the tests of it in their order, of which the first that fails is the refusal.
use Rattle.std.specs.Prelude.{◌≡◌, ◌↔◌, ℕ, pos, unsigned_abs, List, [], ◌++◌, codes, Ok}
use Rattle.toml.specs.Data.{Members}
use Rattle.pic_num.specs.Limits.{most_version}
use Rattle.pic_num.specs.Versions.{IsVersion}
use Rattle.pic_walk.specs.Limits.{from_to}
use Rattle.pic_settings.specs.declared.settings.Settings.{Settings}
use Rattle.pic_settings.specs.Keys.{settings}
use Rattle.pic_deck_laws.specs.Spelling.{natural, Has, HasTable}
use Rattle.pic_deck_laws.specs.Tests.{Test, MakesTests}
use Rattle.pic_deck_laws.specs.ValueTests.{number_of, value_at, number_tests, needed_tests}
use Rattle.pic_deck_laws.specs.GridTable.{IsGridTable, grid_tests}
use Rattle.pic_deck_laws.specs.RunTable.{IsRunTable, run_tests}
use Rattle.pic_deck_laws.specs.ScaleTable.{IsScaleTable, scale_tests}

-- a document spells the settings: it has the version, one that is accepted, and a table each that spells the
-- grid, the run and the scales
pub record SpellsSettings (ms : Members) (s : Settings) : Type 0 where
  pub version : Has ms (codes "version") (natural s.version)
  pub accepted : IsVersion s.version
  pub grid : HasTable ms (codes "grid") (λ t. IsGridTable s.version t s.cells s.tiles)
  pub run : HasTable ms (codes "run") (λ t. IsRunTable s.version t (record { steps = s.steps; every = s.every; filter = s.filter }))
  pub scale : HasTable ms (codes "scale") (λ t. IsScaleTable t s.scales)

-- settings are those of a deck exactly where its document spells them
abbrev pub SettingsAreSpelled : Type 0
SettingsAreSpelled = (ms : Members) (s : Settings) → (settings ms ≡ Ok s) ↔ SpellsSettings ms s

-- the version that a document says
abbrev pub said_version : Members → ℕ
said_version ms = unsigned_abs (number_of (value_at (codes "version") ms))

-- the version, the grid, the run and the scales
unfoldable pub settings_tests : Members → List Test
settings_tests ms =
    needed_tests (number_tests (from_to (pos 1) (pos most_version))) (codes "version") [] ms
    ++ (grid_tests (said_version ms) ms
    ++ (run_tests (said_version ms) ms
    ++ scale_tests ms))

-- the walk of the settings makes these tests
abbrev pub SettingsAreTested : Type 0
SettingsAreTested = (ms : Members) → MakesTests (settings_tests ms) (settings ms)
