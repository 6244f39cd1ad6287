-- The table `probe`: a walk accepts it exactly where it spells probes, and makes its tests.
use Rattle.std.proofs.Common.{◌≡◌, ℕ, pos, ◌<◌, ◌≤◌, inl, inr, List, [], length, Some, Ok, unsigned_abs, refl, sym, ap, ◌∙◌, subst, arith}
use Rattle.std.specs.Prelude.{codes}
use Rattle.std.specs.List.{All}
use Rattle.std.proofs.lemmas.Int.{ints}
use Rattle.toml.specs.Data.{Data, integer, array, Members}
use Rattle.pic_num.specs.Space.{Triple}
use Rattle.pic_block.specs.Cells.{IsCells}
use Rattle.pic_walk.specs.declared.limits.Limits.{Limits}
use Rattle.pic_walk.specs.Limits.{MeetsLimits}
use Rattle.pic_walk.specs.Walk.{Walked, whole, table_of, optional}
use Rattle.pic_walk.proofs.WalkLaws.{then_ok, went}
use Rattle.pic_devices.specs.declared.place.Place.{Place}
use Rattle.pic_devices.specs.declared.probes.Probes.{Probes}
use Rattle.pic_devices.specs.Lists.{list_within}
use Rattle.pic_devices.specs.Probes.{most_places, most_ids, probe_keys, place_limits, id_limits, place_from, place, place_list, id, id_list, probes}
use Rattle.pic_deck_laws.specs.NumberRows.{place_numbers, rows, IsWatched}
use Rattle.pic_deck_laws.specs.Spelling.{natural, spelled, integers, naturals, IsTable}
use Rattle.pic_deck_laws.specs.ValueTests.{members_of, number_tests, numbers_tests}
use Rattle.pic_deck_laws.specs.ProbeTable.{HasPlaces, HasIds, IsProbeTable, ProbesAreSpelled}
use Rattle.pic_deck_laws.specs.ProbeTable.{places_tests, ids_tests, probe_key_tests, probe_tests, ProbesAreTested}
use Rattle.pic_deck_laws.proofs.TestLaws.{Along, makes_tests, then_along, last_along}
use Rattle.pic_deck_laws.proofs.WalkTests.{whole_along, numbers_along, table_along, optional_along}
use Rattle.pic_deck_laws.proofs.ValueLaws.{natural_is, limited_ok, limited_from, table_ok, table_from, optional_ok, optional_from, optional_absent}
use Rattle.pic_deck_laws.proofs.ListLaws.{list_within_along, list_ok, list_from, counted_ok, counted_from, all_fit, fit_all}
use Rattle.pic_deck_laws.proofs.NumberRowLaws.{row_ok, row_of, place_stands}

-- A list of things, each by its own spelling, whose length has limits
pub record IsCounted {A : Type 0} (limits : Limits) (spell : A → Data) (P : A → Type 0) (d : Data) (xs : List A) : Type 0 where
  pub is : d ≡ array (spelled spell xs)
  pub all : All P xs
  pub count : MeetsLimits limits (pos (length xs))

pub list_within_ok : {A : Type 0} (limits : Limits) (f : List A → List ℕ → Data → Walked A) (spell : A → Data) (P : A → Type 0)
    → ((done : List A) (path : List ℕ) (d : Data) (a : A) → f done path d ≡ Ok a → (d ≡ spell a) × P a)
    → (path : List ℕ) (d : Data) (xs : List A) → list_within limits f path d ≡ Ok xs → IsCounted limits spell P d xs
unfolding list_within
list_within_ok limits f spell P one path d xs e =
    let w = went _ _ _ e in
    let found = list_ok f spell (λ _. P) one path d w.value w.first in
    let counts = counted_ok limits path w.value xs w.then in
    subst (IsCounted limits spell P d) counts.0 (record { is = found.is; all = all_fit P 0 w.value found.fit; count = counts.1 })

pub list_within_from : {A : Type 0} (limits : Limits) (f : List A → List ℕ → Data → Walked A) (spell : A → Data) (P : A → Type 0)
    → ((done : List A) (path : List ℕ) (a : A) → P a → f done path (spell a) ≡ Ok a)
    → (path : List ℕ) (xs : List A) → All P xs → MeetsLimits limits (pos (length xs)) → list_within limits f path (array (spelled spell xs)) ≡ Ok xs
unfolding list_within
list_within_from limits f spell P one path xs all count =
    then_ok _ xs _ (list_from f spell (λ _. P) one path xs (fit_all P 0 xs all)) ∙ counted_from limits path xs count

-- Places
place_ok : (n : Triple) → IsCells n → (done : List Place) (path : List ℕ) (d : Data) (p : Place) → place n done path d ≡ Ok p
    → (d ≡ integers (place_numbers p)) × IsWatched n p
unfolding place
place_ok n cells done path d p e = row_ok (place_limits n) place_from place_numbers (IsWatched n) (place_stands n cells) path d p e

place_is : (n : Triple) → IsCells n → (done : List Place) (path : List ℕ) (p : Place) → IsWatched n p → place n done path (integers (place_numbers p)) ≡ Ok p
unfolding place
place_is n cells done path p is = row_of (place_limits n) place_from place_numbers (IsWatched n) (place_stands n cells) path p is

record ArePlaces (n : Triple) (t : Members) (ps : List Place) : Type 0 where
  there : HasPlaces t ps
  watched : All (IsWatched n) ps
  few : length ps ≤ most_places

places_ok : (n : Triple) → IsCells n → (path : List ℕ) (t : Members) (ps : List Place) → optional [] (place_list n) (codes "places") path t ≡ Ok ps
    → ArePlaces n t ps
unfolding place_list
places_ok n cells path t ps e = elim (optional_ok [] (place_list n) (codes "places") path t ps e) [
  | inl has ↦
      (let is = list_within_ok _ (place n) (λ p. integers (place_numbers p)) (IsWatched n) (place_ok n cells) _ has.0 ps has.2 in
      record { there = inl (has.1 ∙ ap (λ x. Some x) is.is); watched = is.all; few = omega (arith, ints, is.count.high) })
  | inr lacks ↦
      subst (ArePlaces n t) lacks.1 (record { there = inr (lacks.0, refl); watched = λ k d h. absurd (omega (arith, h)); few = omega arith })
]

places_from : (n : Triple) → IsCells n → (path : List ℕ) (t : Members) (ps : List Place) → ArePlaces n t ps
    → optional [] (place_list n) (codes "places") path t ≡ Ok ps
unfolding place_list
places_from n cells path t ps are = elim are.there [
  | inl has ↦
      optional_from [] (place_list n) (codes "places") path t (rows place_numbers ps) ps has
      (list_within_from _ (place n) (λ p. integers (place_numbers p)) (IsWatched n) (place_is n cells) _ ps are.watched
      (record { low = omega (arith, ints); high = omega (arith, ints, are.few) }))
  | inr lacks ↦ optional_absent [] (place_list n) (codes "places") path t lacks.0 ∙ ap Ok (sym lacks.1)
]

-- Identities
id_ok : (particles : ℕ) (done path : List ℕ) (d : Data) (i : ℕ) → id particles done path d ≡ Ok i → (d ≡ natural i) × (i < particles)
unfolding id whole
id_ok particles done path d i e =
    let w = went _ _ _ e in
    let number = limited_ok (id_limits particles) path d w.value w.first in
    let size : unsigned_abs w.value ≡ i = cc w.then in
    let same : w.value ≡ pos i = natural_is w.value i (omega (arith, ints, number.within.low)) size in
    (number.is ∙ ap integer same, omega (arith, ints, number.within.low, number.within.high, size))

id_is : (particles : ℕ) (done path : List ℕ) (i : ℕ) → i < particles → id particles done path (natural i) ≡ Ok i
unfolding id whole
id_is particles done path i below =
    then_ok _ (pos i) _ (limited_from (id_limits particles) path (pos i) (record { low = omega (arith, ints); high = omega (arith, ints, below) }))

record AreIds (particles : ℕ) (t : Members) (ids : List ℕ) : Type 0 where
  there : HasIds t ids
  followed : All (λ i. i < particles) ids
  few : length ids ≤ most_ids

ids_ok : (particles : ℕ) (path : List ℕ) (t : Members) (ids : List ℕ) → optional [] (id_list particles) (codes "ids") path t ≡ Ok ids
    → AreIds particles t ids
unfolding id_list
ids_ok particles path t ids e = elim (optional_ok [] (id_list particles) (codes "ids") path t ids e) [
  | inl has ↦
      (let is = list_within_ok _ (id particles) natural (λ i. i < particles) (id_ok particles) _ has.0 ids has.2 in
      record { there = inl (has.1 ∙ ap (λ x. Some x) is.is); followed = is.all; few = omega (arith, ints, is.count.high) })
  | inr lacks ↦
      subst (AreIds particles t) lacks.1 (record { there = inr (lacks.0, refl); followed = λ k d h. absurd (omega (arith, h)); few = omega arith })
]

ids_from : (particles : ℕ) (path : List ℕ) (t : Members) (ids : List ℕ) → AreIds particles t ids
    → optional [] (id_list particles) (codes "ids") path t ≡ Ok ids
unfolding id_list
ids_from particles path t ids are = elim are.there [
  | inl has ↦
      optional_from [] (id_list particles) (codes "ids") path t (naturals ids) ids has
      (list_within_from _ (id particles) natural (λ i. i < particles) (id_is particles) _ ids are.followed
      (record { low = omega (arith, ints); high = omega (arith, ints, are.few) }))
  | inr lacks ↦ optional_absent [] (id_list particles) (codes "ids") path t lacks.0 ∙ ap Ok (sym lacks.1)
]

-- The table
probes_ok : (n : Triple) → IsCells n → (particles : ℕ) (path : List ℕ) (d : Data) (p : Probes) → probes n particles path d ≡ Ok p
    → IsTable d (λ t. IsProbeTable n particles t p)
unfolding probes
probes_ok n cells particles path d p e =
    let a = went _ _ _ e in
    let b = went _ _ _ a.then in
    let c = went _ _ _ b.then in
    let table = table_ok probe_keys path d a.value a.first in
    let places = places_ok n cells path a.value b.value b.first in
    let ids = ids_ok particles path a.value c.value c.first in
    let made : Probes = record { places = b.value; ids = c.value } in
    let same : made ≡ p = cc c.then in
    subst (λ (x : Probes). IsTable d (λ t. IsProbeTable n particles t x)) same (record {
      members = a.value;
      there = table.0;
      holds = record {
        keys = table.1;
        places = places.there;
        ids = ids.there;
        watched = places.watched;
        few_places = places.few;
        followed = ids.followed;
        few_ids = ids.few;
      };
    })

probes_from : (n : Triple) → IsCells n → (particles : ℕ) (path : List ℕ) (d : Data) (p : Probes) → IsTable d (λ t. IsProbeTable n particles t p)
    → probes n particles path d ≡ Ok p
unfolding probes
probes_from n cells particles path d p has =
    let t = has.members in
    let is = has.holds in
    then_ok _ t _ (ap (table_of probe_keys path) has.there ∙ table_from probe_keys path t is.keys)
    ∙ then_ok _ p.places _ (places_from n cells path t p.places (record { there = is.places; watched = is.watched; few = is.few_places }))
    ∙ then_ok _ p.ids _ (ids_from particles path t p.ids (record { there = is.ids; followed = is.followed; few = is.few_ids }))

pub probes_are_spelled : ProbesAreSpelled
probes_are_spelled n cells particles path d p = (probes_ok n cells particles path d p, probes_from n cells particles path d p)

-- The tests
place_along : (n : Triple) (done : List Place) (path : List ℕ) (d : Data) → Along (numbers_tests (place_limits n) path d) (place n done path d)
unfolding place
place_along n done path d = last_along _ _ (numbers_along (place_limits n) path d)

places_along : (n : Triple) (path : List ℕ) (d : Data) → Along (places_tests n path d) (place_list n path d)
unfolding place_list places_tests
places_along n path d = list_within_along _ (place n) _ (place_along n) path d

id_along : (particles : ℕ) (done path : List ℕ) (d : Data) → Along (number_tests (id_limits particles) path d) (id particles done path d)
unfolding id
id_along particles done path d = whole_along (id_limits particles) path d

ids_along : (particles : ℕ) (path : List ℕ) (d : Data) → Along (ids_tests particles path d) (id_list particles path d)
unfolding id_list ids_tests
ids_along particles path d = list_within_along _ (id particles) _ (id_along particles) path d

pub probes_along : (n : Triple) (particles : ℕ) (path : List ℕ) (d : Data) → Along (probe_tests n particles path d) (probes n particles path d)
unfolding probes probe_tests probe_key_tests
probes_along n particles path d =
    then_along _ _ (table_along probe_keys path d)
    (λ t is. rw (ap members_of (table_ok probe_keys path d t is).0)
    (then_along _ _ (optional_along [] _ _ (places_along n) (codes "places") path t)
    (λ places _. last_along _ _ (optional_along [] _ _ (ids_along particles) (codes "ids") path t))))

pub probes_are_tested : ProbesAreTested
probes_are_tested n particles path d = makes_tests _ _ (probes_along n particles path d)
