-- The version, the grid, the run and the scales: a walk accepts them exactly where a document spells them, and
-- makes their tests.
use Rattle.std.proofs.Common.{◌≡◌, ℕ, pos, [], Option, Ok, unsigned_abs, ap, ◌∙◌, subst, arith}
use Rattle.std.specs.Prelude.{codes}
use Rattle.std.proofs.lemmas.Int.{ints}
use Rattle.toml.specs.Data.{Data, Members}
use Rattle.pic_num.specs.Limits.{most_version}
use Rattle.pic_walk.specs.declared.limits.Limits.{Limits}
use Rattle.pic_walk.specs.Limits.{from_to}
use Rattle.pic_walk.specs.Walk.{whole, need}
use Rattle.pic_walk.proofs.WalkLaws.{then_ok, went}
use Rattle.pic_settings.specs.declared.settings.Settings.{Settings}
use Rattle.pic_settings.specs.Keys.{settings}
use Rattle.pic_deck_laws.specs.ValueTests.{number_of, or_empty}
use Rattle.pic_deck_laws.specs.SettingsTables.{SpellsSettings, SettingsAreSpelled, said_version, settings_tests, SettingsAreTested}
use Rattle.pic_deck_laws.proofs.TestLaws.{Along, makes_tests, then_along, last_along}
use Rattle.pic_deck_laws.proofs.WalkTests.{whole_along, need_along}
use Rattle.pic_deck_laws.proofs.ValueLaws.{need_whole_ok, need_whole_from}
use Rattle.pic_deck_laws.proofs.GridLaws.{grids_are_spelled, grid_along}
use Rattle.pic_deck_laws.proofs.RunLaws.{runs_are_spelled, run_along}
use Rattle.pic_deck_laws.proofs.ScaleLaws.{scales_are_spelled, scale_along}

abbrev versions : Limits
versions = from_to (pos 1) (pos most_version)

settings_ok : (ms : Members) (s : Settings) → settings ms ≡ Ok s → SpellsSettings ms s
unfolding settings
settings_ok ms s e =
    let a = went _ _ _ e in
    let b = went _ _ _ a.then in
    let c = went _ _ _ b.then in
    let d = went _ _ _ c.then in
    let version = need_whole_ok versions (codes "version") [] ms a.value (omega (arith, ints)) a.first in
    let g = b.value in
    let r = c.value in
    let made : Settings = record {
      version = a.value;
      cells = g.0;
      tiles = g.1;
      steps = r.steps;
      every = r.every;
      filter = r.filter;
      scales = d.value;
    } in
    let same : made ≡ s = cc d.then in
    subst (SpellsSettings ms) same (record {
      version = version.0;
      accepted = record { least = omega (arith, ints, version.1.low); most = omega (arith, ints, version.1.high) };
      grid = (grids_are_spelled a.value ms g.0 g.1).0 b.first;
      run = (runs_are_spelled a.value ms r).0 c.first;
      scale = (scales_are_spelled ms d.value).0 d.first;
    })

settings_from : (ms : Members) (s : Settings) → SpellsSettings ms s → settings ms ≡ Ok s
unfolding settings
settings_from ms s is =
    then_ok _ s.version _ (need_whole_from versions (codes "version") [] ms s.version is.version
    (record { low = omega (arith, ints, is.accepted.least); high = omega (arith, ints, is.accepted.most) }))
    ∙ then_ok _ (s.cells, s.tiles) _ ((grids_are_spelled s.version ms s.cells s.tiles).1 is.grid)
    ∙ then_ok _ (record { steps = s.steps; every = s.every; filter = s.filter }) _ ((runs_are_spelled s.version ms _).1 is.run)
    ∙ then_ok _ s.scales _ ((scales_are_spelled ms s.scales).1 is.scale)

pub settings_are_spelled : SettingsAreSpelled
settings_are_spelled ms s = (settings_ok ms s, settings_from ms s)

-- The tests
version_found : (ms : Members) (v : ℕ) → need (whole versions) (codes "version") [] ms ≡ Ok v → said_version ms ≡ v
version_found ms v e =
    ap (λ (o : Option Data). unsigned_abs (number_of (or_empty o)))
    (need_whole_ok versions (codes "version") [] ms v (omega (arith, ints)) e).0

pub settings_along : (ms : Members) → Along (settings_tests ms) (settings ms)
unfolding settings settings_tests
settings_along ms =
    then_along _ _ (need_along _ _ (whole_along versions) (codes "version") [] ms)
    (λ v is. rw (version_found ms v is)
    (then_along _ _ (grid_along v ms)
    (λ g _. then_along _ _ (run_along v ms)
    (λ r _. last_along _ _ (scale_along ms)))))

pub settings_are_tested : SettingsAreTested
settings_are_tested ms = makes_tests _ _ (settings_along ms)
