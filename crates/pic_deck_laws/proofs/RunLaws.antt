-- The table `run`: a walk accepts it exactly where it spells a course, and makes its tests.
use Rattle.std.proofs.Common.{◌≡◌, ◌≢◌, ℕ, ◌≤◌, pos, ◌==◌, true, false, [], inl, inr}
use Rattle.std.proofs.Common.{Some, Ok, sym, ap, ◌∙◌, subst, arith}
use Rattle.std.specs.Prelude.{codes}
use Rattle.std.proofs.lemmas.Bool.{cases_eq}
use Rattle.std.proofs.lemmas.Bool.Decides.{nat_tests}
use Rattle.std.proofs.lemmas.Int.{ints}
use Rattle.std.proofs.Math.Nat.{le_refl}
use Rattle.toml.specs.Data.{Members}
use Rattle.pic_num.specs.Limits.{allowance_of}
use Rattle.pic_walk.specs.declared.limits.Limits.{Limits}
use Rattle.pic_walk.specs.Limits.{from_to}
use Rattle.pic_walk.specs.Walk.{whole, optional}
use Rattle.pic_walk.proofs.WalkLaws.{then_ok, went}
use Rattle.pic_settings.specs.declared.run.Course.{Course}
use Rattle.pic_settings.specs.Keys.{run_keys, step_limits, filter_in, run}
use Rattle.pic_deck_laws.specs.Spelling.{natural, HasTable}
use Rattle.pic_deck_laws.specs.RunTable.{HasFilter, IsRunTable, RunsAreSpelled, filter_tests, run_key_tests, run_tests, RunsAreTested}
use Rattle.pic_deck_laws.proofs.TestLaws.{Along, makes_tests, then_along, last_along, branch_along}
use Rattle.pic_deck_laws.proofs.WalkTests.{whole_along, table_along, need_along, optional_along}
use Rattle.pic_deck_laws.proofs.ValueLaws.{whole_ok, whole_from, need_whole_ok, need_whole_from, need_table_ok, need_table_from, table_found}
use Rattle.pic_deck_laws.proofs.ValueLaws.{optional_ok, optional_from, optional_absent}

-- The filter
abbrev filter_limits : ℕ → Limits
filter_limits version = from_to (pos 0) (pos (allowance_of version).filter)

filter_of_first : (version : ℕ) (t : Members) → version ≡ 1 → filter_in version t ≡ Ok 0
unfolding filter_in
filter_of_first version t one =
    let same : (version == 1) ≡ true = grind (arith, nat_tests) in
    rw same

filter_of_further : (version : ℕ) (t : Members) → version ≢ 1
    → filter_in version t ≡ optional 0 (whole (filter_limits version)) (codes "filter") (codes "run") t
unfolding filter_in
filter_of_further version t further =
    let other : (version == 1) ≡ false = grind (arith, nat_tests) in
    rw other

pub record IsFilterIn (version : ℕ) (t : Members) (f : ℕ) : Type 0 where
  pub key : version ≢ 1 → HasFilter t f
  pub smooth : f ≤ (allowance_of version).filter

further_filter_ok : (version : ℕ) (t : Members) (f : ℕ) → optional 0 (whole (filter_limits version)) (codes "filter") (codes "run") t ≡ Ok f
    → IsFilterIn version t f
further_filter_ok version t f e = elim (optional_ok 0 (whole (filter_limits version)) (codes "filter") (codes "run") t f e) [
  | inl has ↦
      (let number = whole_ok (filter_limits version) _ has.0 f (omega (arith, ints)) has.2 in
      record {
        key = λ further. inl (has.1 ∙ ap (λ x. Some x) number.is);
        smooth = omega (arith, ints, number.within.high);
      })
  | inr lacks ↦ record { key = λ further. inr (lacks.0, sym lacks.1); smooth = omega (arith, lacks.1) }
]

filter_ok : (version : ℕ) (t : Members) (f : ℕ) → filter_in version t ≡ Ok f → IsFilterIn version t f
filter_ok version t f e = elim (cases_eq version 1) [
  | inl one ↦
      (let same : 0 ≡ f = cc (sym (filter_of_first version t one) ∙ e) in
      record { key = λ further. absurd (further one); smooth = omega (arith, same) })
  | inr further ↦ further_filter_ok version t f (sym (filter_of_further version t further) ∙ e)
]

first_filter : (version : ℕ) → version ≡ 1 → (allowance_of version).filter ≤ 0
first_filter version one = subst (λ (v : ℕ). (allowance_of v).filter ≤ 0) (sym one) (le_refl _)

further_filter_from : (version : ℕ) (t : Members) (f : ℕ) → f ≤ (allowance_of version).filter → HasFilter t f
    → optional 0 (whole (filter_limits version)) (codes "filter") (codes "run") t ≡ Ok f
further_filter_from version t f smooth has = elim has [
  | inl there ↦
      optional_from 0 _ (codes "filter") (codes "run") t (natural f) f there
      (whole_from (filter_limits version) _ f (record { low = omega (arith, ints); high = omega (arith, ints, smooth) }))
  | inr lacks ↦ optional_absent 0 _ (codes "filter") (codes "run") t lacks.0 ∙ ap Ok (sym lacks.1)
]

filter_from : (version : ℕ) (t : Members) (f : ℕ) → IsFilterIn version t f → filter_in version t ≡ Ok f
filter_from version t f is = elim (cases_eq version 1) [
  | inl one ↦
      (let none : 0 ≡ f = omega (arith, first_filter version one, is.smooth) in
      filter_of_first version t one ∙ ap Ok none)
  | inr further ↦ filter_of_further version t further ∙ further_filter_from version t f is.smooth (is.key further)
]

-- The table
run_ok : (version : ℕ) (ms : Members) (c : Course) → run version ms ≡ Ok c → HasTable ms (codes "run") (λ t. IsRunTable version t c)
unfolding run
run_ok version ms c e =
    let a = went _ _ _ e in
    let b = went _ _ _ a.then in
    let d = went _ _ _ b.then in
    let f = went _ _ _ d.then in
    let table = need_table_ok (run_keys version) (codes "run") [] ms a.value a.first in
    let steps = need_whole_ok (step_limits 0) (codes "steps") (codes "run") a.value b.value (omega (arith, ints)) b.first in
    let every = need_whole_ok (step_limits 1) (codes "every") (codes "run") a.value d.value (omega (arith, ints)) d.first in
    let filter = filter_ok version a.value f.value f.first in
    let made : Course = record { steps = b.value; every = d.value; filter = f.value } in
    let same : made ≡ c = cc f.then in
    subst (λ (x : Course). HasTable ms (codes "run") (λ t. IsRunTable version t x)) same (record {
      members = a.value;
      there = table.0;
      holds = record {
        keys = table.1;
        steps = steps.0;
        every = every.0;
        filter = filter.key;
        few = omega (arith, ints, steps.1.high);
        often = omega (arith, ints, every.1.low);
        seldom = omega (arith, ints, every.1.high);
        smooth = filter.smooth;
      };
    })

run_from : (version : ℕ) (ms : Members) (c : Course) → HasTable ms (codes "run") (λ t. IsRunTable version t c) → run version ms ≡ Ok c
unfolding run
run_from version ms c has =
    let t = has.members in
    let is = has.holds in
    then_ok _ t _ (need_table_from (run_keys version) (codes "run") [] ms t has.there is.keys)
    ∙ then_ok _ c.steps _ (need_whole_from (step_limits 0) (codes "steps") (codes "run") t c.steps is.steps
    (record { low = omega (arith, ints); high = omega (arith, ints, is.few) }))
    ∙ then_ok _ c.every _ (need_whole_from (step_limits 1) (codes "every") (codes "run") t c.every is.every
    (record { low = omega (arith, ints, is.often); high = omega (arith, ints, is.seldom) }))
    ∙ then_ok _ c.filter _ (filter_from version t c.filter (record { key = is.filter; smooth = is.smooth }))

pub runs_are_spelled : RunsAreSpelled
runs_are_spelled version ms c = (run_ok version ms c, run_from version ms c)

-- The tests
filter_along : (version : ℕ) (t : Members) → Along (filter_tests version t) (filter_in version t)
unfolding filter_in filter_tests
filter_along version t =
    branch_along (version == 1) _ (optional_along 0 _ _ (whole_along (filter_limits version)) (codes "filter") (codes "run") t)

pub run_along : (version : ℕ) (ms : Members) → Along (run_tests version ms) (run version ms)
unfolding run run_tests run_key_tests
run_along version ms =
    then_along _ _ (need_along _ _ (table_along (run_keys version)) (codes "run") [] ms)
    (λ t is. rw (table_found (run_keys version) (codes "run") [] ms t is)
    (then_along _ _ (need_along _ _ (whole_along (step_limits 0)) (codes "steps") (codes "run") t)
    (λ steps _. then_along _ _ (need_along _ _ (whole_along (step_limits 1)) (codes "every") (codes "run") t)
    (λ every _. last_along _ _ (filter_along version t)))))

pub runs_are_tested : RunsAreTested
runs_are_tested version ms = makes_tests _ _ (run_along version ms)
