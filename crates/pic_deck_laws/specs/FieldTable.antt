-- The table `field` of a deck, with no walk from key to key: what it spells where it is accepted, and the
-- tests of it in their order, of which the first that fails is the refusal.
use Rattle.std.specs.Prelude.{◌≡◌, ◌↔◌, ◌⊎◌, ℕ, ℤ, pos, ◌≤◌, All, List, [], ◌++◌, length, codes, Ok}
use Rattle.toml.specs.Data.{Data, Members}
use Rattle.pic_num.specs.Space.{Triple}
use Rattle.pic_block.specs.Cells.{IsCells}
use Rattle.pic_walk.specs.declared.row.Row.{Row}
use Rattle.pic_walk.specs.Bounds.{most_rows}
use Rattle.pic_walk.specs.Limits.{from_to, any_limits, MeetsLimits}
use Rattle.pic_walk.specs.Rows.{row_limits}
use Rattle.pic_walk.specs.Walk.{any_three}
use Rattle.pic_deck.specs.declared.fields.InitialFields.{InitialFields}
use Rattle.pic_deck.specs.Keys.{field_keys, zeros, fields}
use Rattle.pic_deck_laws.specs.NumberRows.{row_numbers, rows, IsFieldRow}
use Rattle.pic_deck_laws.specs.Spelling.{integers, Has, Lacks, HasOnly, IsTable}
use Rattle.pic_deck_laws.specs.Tests.{Test, MakesTests}
use Rattle.pic_deck_laws.specs.ValueTests.{members_of, numbers_tests, counted_tests, table_tests, optional_tests}

-- a table spells a uniform part at the key, three numbers of 64 bits, or it is 0 and there is no such key
pub record HasUniform (t : Members) (key : List ℕ) (u : List ℤ) : Type 0 where
  pub there : Has t key (integers u) ⊎ (Lacks t key × (u ≡ zeros))
  pub three : length u ≡ 3
  pub within : All (MeetsLimits any_limits) u

-- a table spells rows at the key, not too many, or there are none and no such key
pub record HasRows (n : Triple) (t : Members) (key : List ℕ) (rs : List Row) : Type 0 where
  pub there : Has t key (rows row_numbers rs) ⊎ (Lacks t key × (rs ≡ []))
  pub few : length rs ≤ most_rows
  pub allowed : All (IsFieldRow n) rs

-- a table spells the fields on n cells: the uniform parts of E and B and the rows that are added to them, and
-- nothing else
pub record IsFieldTable (n : Triple) (t : Members) (f : InitialFields) : Type 0 where
  pub keys : HasOnly field_keys t
  pub e : HasUniform t (codes "e") f.e
  pub b : HasUniform t (codes "b") f.b
  pub edges : HasRows n t (codes "edges") f.edges
  pub faces : HasRows n t (codes "faces") f.faces

-- on the cells of a grid, fields are accepted exactly where the value is a table that spells them
abbrev pub FieldsAreSpelled : Type 0
FieldsAreSpelled =
    (n : Triple) → IsCells n → (path : List ℕ) (d : Data) (f : InitialFields)
    → (fields n path d ≡ Ok f) ↔ IsTable d (λ t. IsFieldTable n t f)

-- the rows of a field
unfoldable pub rows_tests : Triple → List ℕ → Data → List Test
rows_tests n path d = counted_tests (from_to (pos 0) (pos most_rows)) (λ _. numbers_tests (row_limits n)) path d

-- the keys of a table `field`
unfoldable pub field_key_tests : Triple → List ℕ → Members → List Test
field_key_tests n path t =
    optional_tests (numbers_tests any_three) (codes "e") path t
    ++ (optional_tests (numbers_tests any_three) (codes "b") path t
    ++ (optional_tests (rows_tests n) (codes "edges") path t
    ++ optional_tests (rows_tests n) (codes "faces") path t))

-- the table `field`
unfoldable pub field_tests : Triple → List ℕ → Data → List Test
field_tests n path d = table_tests field_keys path d ++ field_key_tests n path (members_of d)

-- the walk of the fields makes these tests
abbrev pub FieldsAreTested : Type 0
FieldsAreTested =
    (n : Triple) (path : List ℕ) (d : Data) → MakesTests (field_tests n path d) (fields n path d)
