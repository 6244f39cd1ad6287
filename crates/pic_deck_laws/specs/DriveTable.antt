-- The loops `drive` of a deck, with no walk from key to key: what they spell where they are accepted, and the
-- tests of them in their order, of which the first that fails is the refusal.
use Rattle.std.specs.Prelude.{◌≡◌, ◌↔◌, ℕ, pos, ◌≤◌, List, ◌++◌, length, codes, Ok}
use Rattle.toml.specs.Data.{Data, Members}
use Rattle.pic_num.specs.Limits.{most_loops}
use Rattle.pic_num.specs.Space.{Triple, axis_number}
use Rattle.pic_block.specs.Cells.{IsCells}
use Rattle.pic_grid.specs.declared.loops.Loop.{Loop}
use Rattle.pic_grid.specs.Loops.{IsLoop}
use Rattle.pic_walk.specs.Limits.{from_to}
use Rattle.pic_devices.specs.Drive.{loop_keys, axis_limits, cell_limits, drive_limits, wave_limits, drive_list}
use Rattle.pic_deck_laws.specs.Spelling.{natural, integers, naturals, Has, HasOnly, IsTable, IsArrayOf}
use Rattle.pic_deck_laws.specs.Tests.{Test, MakesTests}
use Rattle.pic_deck_laws.specs.ValueTests.{members_of, number_tests, numbers_tests, table_tests, needed_tests, counted_tests, limited_tests}

-- a table spells a loop on n cells: it has its axis, its cell and its wave, and nothing else; they are within
-- their limits
pub record IsLoopTable (n : Triple) (t : Members) (l : Loop) : Type 0 where
  pub keys : HasOnly loop_keys t
  pub axis : Has t (codes "axis") (natural (axis_number l.axis))
  pub cell : Has t (codes "cell") (naturals l.cell)
  pub wave : Has t (codes "wave") (integers l.wave)
  pub three : length l.cell ≡ 3
  pub allowed : IsLoop n l

-- an array spells the loops of a run on n cells, a table each, and not too many
pub record AreLoopTables (n : Triple) (d : Data) (loops : List Loop) : Type 0 where
  pub tables : IsArrayOf (λ _ e l. IsTable e (λ t. IsLoopTable n t l)) d loops
  pub few : length loops ≤ most_loops

-- on the cells of a grid, loops are accepted exactly where the value spells them
abbrev pub LoopsAreSpelled : Type 0
LoopsAreSpelled =
    (n : Triple) → IsCells n → (path : List ℕ) (d : Data) (loops : List Loop)
    → (drive_list n path d ≡ Ok loops) ↔ AreLoopTables n d loops

-- a wave
unfoldable pub wave_tests : List ℕ → Data → List Test
wave_tests path d = counted_tests wave_limits (λ _. number_tests drive_limits) path d

-- the keys of a loop
unfoldable pub loop_key_tests : Triple → List ℕ → Members → List Test
loop_key_tests n path t =
    needed_tests (number_tests axis_limits) (codes "axis") path t
    ++ (needed_tests (numbers_tests (cell_limits n)) (codes "cell") path t
    ++ needed_tests wave_tests (codes "wave") path t)

-- a loop
unfoldable pub loop_tests : Triple → List ℕ → Data → List Test
loop_tests n path d = table_tests loop_keys path d ++ loop_key_tests n path (members_of d)

-- all loops
unfoldable pub drive_tests : Triple → List ℕ → Data → List Test
drive_tests n path d = limited_tests (from_to (pos 0) (pos most_loops)) (λ _. loop_tests n) path d

-- the walk of the loops makes these tests
abbrev pub LoopsAreTested : Type 0
LoopsAreTested =
    (n : Triple) (path : List ℕ) (d : Data) → MakesTests (drive_tests n path d) (drive_list n path d)
