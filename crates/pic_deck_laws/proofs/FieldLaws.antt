-- The table `field`: a walk accepts it exactly where it spells fields, and makes its tests.
use Rattle.std.proofs.Common.{◌≡◌, ℕ, zero, suc, ℤ, pos, inl, inr, List, [], ◌∷◌, length, Some, Ok, refl, sym, ap, ◌∙◌, subst, arith}
use Rattle.std.specs.Prelude.{codes}
use Rattle.std.specs.List.{All}
use Rattle.std.proofs.lemmas.Int.{ints}
use Rattle.toml.specs.Data.{Data, Members}
use Rattle.pic_num.specs.Space.{Triple}
use Rattle.pic_block.specs.Cells.{IsCells}
use Rattle.pic_walk.specs.declared.limits.Limits.{Limits}
use Rattle.pic_walk.specs.declared.row.Row.{Row}
use Rattle.pic_walk.specs.Bounds.{most_rows}
use Rattle.pic_walk.specs.Limits.{from_to, MeetsLimits, limits_at, any_limits}
use Rattle.pic_walk.specs.Rows.{row_limits, row_from, row, row_list}
use Rattle.pic_walk.specs.Walk.{numbers, any_three, table_of, optional}
use Rattle.pic_walk.proofs.WalkLaws.{then_ok, went}
use Rattle.pic_devices.specs.Lists.{counted, list_within}
use Rattle.pic_deck.specs.declared.fields.InitialFields.{InitialFields}
use Rattle.pic_deck.specs.Keys.{field_keys, zeros, fields}
use Rattle.pic_deck_laws.specs.NumberRows.{row_numbers, rows, IsFieldRow}
use Rattle.pic_deck_laws.specs.Spelling.{integers, IsTable}
use Rattle.pic_deck_laws.specs.ValueTests.{members_of, numbers_tests}
use Rattle.pic_deck_laws.specs.FieldTable.{HasUniform, HasRows, IsFieldTable, FieldsAreSpelled, rows_tests, field_key_tests, field_tests, FieldsAreTested}
use Rattle.pic_deck_laws.proofs.TestLaws.{Along, makes_tests, then_along, last_along}
use Rattle.pic_deck_laws.proofs.WalkTests.{numbers_along, table_along, optional_along}
use Rattle.pic_deck_laws.proofs.ValueLaws.{FitFrom, Within, numbers_ok, numbers_from, table_ok, table_from, optional_ok, optional_from, optional_absent}
use Rattle.pic_deck_laws.proofs.ListLaws.{list_within_along}
use Rattle.pic_deck_laws.proofs.NumberRowLaws.{row_ok, row_of, row_stands}
use Rattle.pic_deck_laws.proofs.ProbeLaws.{list_within_ok, list_within_from}

-- A uniform part
all_any : (zs : List ℤ) → length zs ≡ 3 → FitFrom (Within any_three) 0 zs → All (MeetsLimits any_limits) zs
unfolding limits_at
all_any [] size fit k e h = absurd (omega (arith, size))
all_any (a ∷ []) size fit k e h = absurd (omega (arith, size))
all_any (a ∷ b ∷ []) size fit k e h = absurd (omega (arith, size))
all_any (a ∷ b ∷ c ∷ []) size fit zero d h = fit.0
all_any (a ∷ b ∷ c ∷ []) size fit (suc zero) d h = fit.1.0
all_any (a ∷ b ∷ c ∷ []) size fit (suc (suc zero)) d h = fit.1.1.0
all_any (a ∷ b ∷ c ∷ []) size fit (suc (suc (suc k))) d h = absurd (omega (arith, h))
all_any (a ∷ b ∷ c ∷ d ∷ zs) size fit k e h = absurd (omega (arith, size))

any_all : (zs : List ℤ) → length zs ≡ 3 → All (MeetsLimits any_limits) zs → FitFrom (Within any_three) 0 zs
unfolding limits_at
any_all [] size all = absurd (omega (arith, size))
any_all (a ∷ []) size all = absurd (omega (arith, size))
any_all (a ∷ b ∷ []) size all = absurd (omega (arith, size))
any_all (a ∷ b ∷ c ∷ []) size all = (all 0 a (omega arith), (all 1 a (omega arith), (all 2 a (omega arith), tt)))
any_all (a ∷ b ∷ c ∷ d ∷ zs) size all = absurd (omega (arith, size))

all_zeros : All (MeetsLimits any_limits) zeros
all_zeros zero d h = record { low = omega (arith, ints); high = omega (arith, ints) }
all_zeros (suc zero) d h = record { low = omega (arith, ints); high = omega (arith, ints) }
all_zeros (suc (suc zero)) d h = record { low = omega (arith, ints); high = omega (arith, ints) }
all_zeros (suc (suc (suc k))) d h = absurd (omega (arith, h))

uniform_ok : (key path : List ℕ) (t : Members) (u : List ℤ) → optional zeros (numbers any_three) key path t ≡ Ok u → HasUniform t key u
uniform_ok key path t u e = elim (optional_ok zeros (numbers any_three) key path t u e) [
  | inl has ↦
      (let is = numbers_ok any_three _ has.0 u has.2 in
      record { there = inl (has.1 ∙ ap (λ x. Some x) is.is); three = is.size; within = all_any u is.size is.fit })
  | inr lacks ↦ subst (HasUniform t key) lacks.1 (record { there = inr (lacks.0, refl); three = refl; within = all_zeros })
]

uniform_from : (key path : List ℕ) (t : Members) (u : List ℤ) → HasUniform t key u → optional zeros (numbers any_three) key path t ≡ Ok u
uniform_from key path t u is = elim is.there [
  | inl has ↦
      optional_from zeros (numbers any_three) key path t (integers u) u has
      (numbers_from any_three _ u is.three (any_all u is.three is.within))
  | inr lacks ↦ optional_absent zeros (numbers any_three) key path t lacks.0 ∙ ap Ok (sym lacks.1)
]

-- Rows
row_is_ok : (n : Triple) → IsCells n → (done : List Row) (path : List ℕ) (d : Data) (r : Row) → row n done path d ≡ Ok r
    → (d ≡ integers (row_numbers r)) × IsFieldRow n r
unfolding row
row_is_ok n cells done path d r e = row_ok (row_limits n) row_from row_numbers (IsFieldRow n) (row_stands n cells) path d r e

row_is : (n : Triple) → IsCells n → (done : List Row) (path : List ℕ) (r : Row) → IsFieldRow n r → row n done path (integers (row_numbers r)) ≡ Ok r
unfolding row
row_is n cells done path r is = row_of (row_limits n) row_from row_numbers (IsFieldRow n) (row_stands n cells) path r is

abbrev count_limits : Limits
count_limits = from_to (pos 0) (pos most_rows)

list_is : (n : Triple) (path : List ℕ) (d : Data) → row_list n path d ≡ list_within count_limits (row n) path d
unfolding row_list list_within counted
list_is n path d = refl

rows_ok : (n : Triple) → IsCells n → (key path : List ℕ) (t : Members) (rs : List Row) → optional [] (row_list n) key path t ≡ Ok rs → HasRows n t key rs
rows_ok n cells key path t rs e = elim (optional_ok [] (row_list n) key path t rs e) [
  | inl has ↦
      (let is =
      list_within_ok count_limits (row n) (λ r. integers (row_numbers r)) (IsFieldRow n) (row_is_ok n cells) _ has.0 rs
      (sym (list_is n _ has.0) ∙ has.2)
      in
      record { there = inl (has.1 ∙ ap (λ x. Some x) is.is); few = omega (arith, ints, is.count.high); allowed = is.all })
  | inr lacks ↦
      subst (HasRows n t key) lacks.1 (record { there = inr (lacks.0, refl); few = omega arith; allowed = λ k d h. absurd (omega (arith, h)) })
]

rows_from : (n : Triple) → IsCells n → (key path : List ℕ) (t : Members) (rs : List Row) → HasRows n t key rs → optional [] (row_list n) key path t ≡ Ok rs
rows_from n cells key path t rs is = elim is.there [
  | inl has ↦
      optional_from [] (row_list n) key path t (rows row_numbers rs) rs has
      (list_is n _ (rows row_numbers rs)
      ∙ list_within_from count_limits (row n) (λ r. integers (row_numbers r)) (IsFieldRow n) (row_is n cells) _ rs is.allowed
      (record { low = omega (arith, ints); high = omega (arith, ints, is.few) }))
  | inr lacks ↦ optional_absent [] (row_list n) key path t lacks.0 ∙ ap Ok (sym lacks.1)
]

-- The table
fields_ok : (n : Triple) → IsCells n → (path : List ℕ) (d : Data) (f : InitialFields) → fields n path d ≡ Ok f → IsTable d (λ t. IsFieldTable n t f)
unfolding fields
fields_ok n cells path d f e =
    let a = went _ _ _ e in
    let b = went _ _ _ a.then in
    let c = went _ _ _ b.then in
    let g = went _ _ _ c.then in
    let h = went _ _ _ g.then in
    let table = table_ok field_keys path d a.value a.first in
    let made : InitialFields = record { e = b.value; b = c.value; edges = g.value; faces = h.value } in
    let same : made ≡ f = cc h.then in
    subst (λ (x : InitialFields). IsTable d (λ t. IsFieldTable n t x)) same (record {
      members = a.value;
      there = table.0;
      holds = record {
        keys = table.1;
        e = uniform_ok (codes "e") path a.value b.value b.first;
        b = uniform_ok (codes "b") path a.value c.value c.first;
        edges = rows_ok n cells (codes "edges") path a.value g.value g.first;
        faces = rows_ok n cells (codes "faces") path a.value h.value h.first;
      };
    })

fields_from : (n : Triple) → IsCells n → (path : List ℕ) (d : Data) (f : InitialFields) → IsTable d (λ t. IsFieldTable n t f) → fields n path d ≡ Ok f
unfolding fields
fields_from n cells path d f has =
    let t = has.members in
    let is = has.holds in
    then_ok _ t _ (ap (table_of field_keys path) has.there ∙ table_from field_keys path t is.keys)
    ∙ then_ok _ f.e _ (uniform_from (codes "e") path t f.e is.e)
    ∙ then_ok _ f.b _ (uniform_from (codes "b") path t f.b is.b)
    ∙ then_ok _ f.edges _ (rows_from n cells (codes "edges") path t f.edges is.edges)
    ∙ then_ok _ f.faces _ (rows_from n cells (codes "faces") path t f.faces is.faces)

pub fields_are_spelled : FieldsAreSpelled
fields_are_spelled n cells path d f = (fields_ok n cells path d f, fields_from n cells path d f)

-- The tests
row_along : (n : Triple) (done : List Row) (path : List ℕ) (d : Data) → Along (numbers_tests (row_limits n) path d) (row n done path d)
unfolding row
row_along n done path d = last_along _ _ (numbers_along (row_limits n) path d)

rows_along : (n : Triple) (path : List ℕ) (d : Data) → Along (rows_tests n path d) (row_list n path d)
unfolding rows_tests
rows_along n path d = rw (list_is n path d) (list_within_along count_limits (row n) _ (row_along n) path d)

pub fields_along : (n : Triple) (path : List ℕ) (d : Data) → Along (field_tests n path d) (fields n path d)
unfolding fields field_tests field_key_tests
fields_along n path d =
    then_along _ _ (table_along field_keys path d)
    (λ t is. rw (ap members_of (table_ok field_keys path d t is).0)
    (then_along _ _ (optional_along zeros _ _ (numbers_along any_three) (codes "e") path t)
    (λ e _. then_along _ _ (optional_along zeros _ _ (numbers_along any_three) (codes "b") path t)
    (λ b _. then_along _ _ (optional_along [] _ _ (rows_along n) (codes "edges") path t)
    (λ edges _. last_along _ _ (optional_along [] _ _ (rows_along n) (codes "faces") path t))))))

pub fields_are_tested : FieldsAreTested
fields_are_tested n path d = makes_tests _ _ (fields_along n path d)
