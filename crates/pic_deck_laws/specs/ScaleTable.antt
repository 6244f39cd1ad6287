-- The table `scale` of a deck, with no walk from key to key: what it spells where it is accepted, and the
-- tests of it in their order, of which the first that fails is the refusal.
use Rattle.std.specs.Prelude.{◌≡◌, ◌↔◌, ℕ, List, [], ◌++◌, codes, Ok}
use Rattle.toml.specs.Data.{Members}
use Rattle.pic_num.specs.declared.mult.Scales.{Scales}
use Rattle.pic_num.specs.Multiplier.{Multiplier, IsMultiplier}
use Rattle.pic_walk.specs.Walk.{multiplier_limits}
use Rattle.pic_settings.specs.Keys.{scale_keys, scale}
use Rattle.pic_deck_laws.specs.Spelling.{fraction, Has, HasOnly, HasTable}
use Rattle.pic_deck_laws.specs.Tests.{Test, MakesTests}
use Rattle.pic_deck_laws.specs.ValueTests.{members_of, value_at, numbers_tests, table_tests, needed_tests}

-- a table has a multiplier at the key
pub record HasMultiplier (t : Members) (key : List ℕ) (m : Multiplier) : Type 0 where
  pub there : Has t key (fraction m)
  pub within : IsMultiplier m

-- a table spells the four multipliers, and has nothing else
pub record IsScaleTable (t : Members) (s : Scales) : Type 0 where
  pub keys : HasOnly scale_keys t
  pub e_to_b : HasMultiplier t (codes "e_to_b") s.e_to_b
  pub b_to_e : HasMultiplier t (codes "b_to_e") s.b_to_e
  pub e_force : HasMultiplier t (codes "e_force") s.e_force
  pub b_force : HasMultiplier t (codes "b_force") s.b_force

-- the multipliers are what a deck has exactly where its table at `scale` spells them
abbrev pub ScalesAreSpelled : Type 0
ScalesAreSpelled =
    (ms : Members) (s : Scales)
    → (scale ms ≡ Ok s) ↔ HasTable ms (codes "scale") (λ t. IsScaleTable t s)

-- a multiplier at a key
unfoldable pub multiplier_tests : List ℕ → Members → List Test
multiplier_tests key t = needed_tests (numbers_tests multiplier_limits) key (codes "scale") t

-- the keys of a table `scale`
unfoldable pub scale_key_tests : Members → List Test
scale_key_tests t =
    multiplier_tests (codes "e_to_b") t
    ++ (multiplier_tests (codes "b_to_e") t
    ++ (multiplier_tests (codes "e_force") t
    ++ multiplier_tests (codes "b_force") t))

-- the table `scale`
unfoldable pub scale_tests : Members → List Test
scale_tests ms =
    needed_tests (table_tests scale_keys) (codes "scale") [] ms
    ++ scale_key_tests (members_of (value_at (codes "scale") ms))

-- the walk of the scales makes these tests
abbrev pub ScalesAreTested : Type 0
ScalesAreTested = (ms : Members) → MakesTests (scale_tests ms) (scale ms)
