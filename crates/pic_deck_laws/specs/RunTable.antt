-- The table `run` of a deck, with no walk from key to key: what it spells where it is accepted, and the
-- tests of it in their order, of which the first that fails is the refusal.
use Rattle.std.specs.Prelude.{◌≡◌, ◌≢◌, ◌↔◌, ◌⊎◌, ℕ, pos, ◌==◌, ◌≤◌, List, [], ◌++◌, codes, if◌then◌else◌, Ok}
use Rattle.toml.specs.Data.{Members}
use Rattle.pic_num.specs.Limits.{most_steps, allowance_of}
use Rattle.pic_walk.specs.Limits.{from_to}
use Rattle.pic_settings.specs.declared.run.Course.{Course}
use Rattle.pic_settings.specs.Keys.{run_keys, step_limits, run}
use Rattle.pic_deck_laws.specs.Spelling.{natural, Has, Lacks, HasOnly, HasTable}
use Rattle.pic_deck_laws.specs.Tests.{Test, MakesTests}
use Rattle.pic_deck_laws.specs.ValueTests.{members_of, value_at, number_tests, table_tests, needed_tests, optional_tests}

-- a table spells a filter, which is 0 where its key isn't there
abbrev pub HasFilter : Members → ℕ → Type 0
HasFilter t f = Has t (codes "filter") (natural f) ⊎ (Lacks t (codes "filter") × (f ≡ 0))

-- a table spells the course of a run: it has the steps, how many there are from one frame to the next and, in
-- version 2, maybe the filter, and nothing else; each is within its limits
pub record IsRunTable (version : ℕ) (t : Members) (c : Course) : Type 0 where
  pub keys : HasOnly (run_keys version) t
  pub steps : Has t (codes "steps") (natural c.steps)
  pub every : Has t (codes "every") (natural c.every)
  pub filter : version ≢ 1 → HasFilter t c.filter
  pub few : c.steps ≤ most_steps
  pub often : 1 ≤ c.every
  pub seldom : c.every ≤ most_steps
  pub smooth : c.filter ≤ (allowance_of version).filter

-- a course is what a deck has exactly where its table at `run` spells it
abbrev pub RunsAreSpelled : Type 0
RunsAreSpelled =
    (version : ℕ) (ms : Members) (c : Course)
    → (run version ms ≡ Ok c) ↔ HasTable ms (codes "run") (λ t. IsRunTable version t c)

-- the filter
unfoldable pub filter_tests : ℕ → Members → List Test
filter_tests version t =
    if version == 1 then []
    else optional_tests (number_tests (from_to (pos 0) (pos (allowance_of version).filter))) (codes "filter") (codes "run") t

-- the keys of a table `run`
unfoldable pub run_key_tests : ℕ → Members → List Test
run_key_tests version t =
    needed_tests (number_tests (step_limits 0)) (codes "steps") (codes "run") t
    ++ (needed_tests (number_tests (step_limits 1)) (codes "every") (codes "run") t
    ++ filter_tests version t)

-- the table `run`
unfoldable pub run_tests : ℕ → Members → List Test
run_tests version ms =
    needed_tests (table_tests (run_keys version)) (codes "run") [] ms
    ++ run_key_tests version (members_of (value_at (codes "run") ms))

-- the walk of the run makes these tests
abbrev pub RunsAreTested : Type 0
RunsAreTested = (version : ℕ) (ms : Members) → MakesTests (run_tests version ms) (run version ms)
