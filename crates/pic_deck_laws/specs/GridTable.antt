-- The table `grid` of a deck, with no walk from key to key: what it spells where it is accepted, and the
-- tests of it in their order, of which the first that fails is the refusal.
use Rattle.std.specs.Prelude.{◌≡◌, ◌≢◌, ◌↔◌, ℕ, pos, ◌==◌, ◌/◌, ◌%◌, unsigned_abs, is_some, List, [], ◌∷◌, ◌++◌, length, codes}
use Rattle.std.specs.Prelude.{slice_index, if◌then◌else◌, Ok}
use Rattle.toml.specs.Data.{Data, Members, as_integer}
use Rattle.pic_num.specs.Space.{triple}
use Rattle.pic_num.specs.Sub.{bits_of}
use Rattle.pic_num.specs.Versions.{IsGridOf}
use Rattle.pic_block.specs.Cells.{Grid, IsCells, count_of}
use Rattle.pic_grid.specs.Tiles.{AreTiles, most_tiles}
use Rattle.pic_walk.specs.declared.fault.Fault.TheVariants.{Kind}
use Rattle.pic_walk.specs.Limits.{from_to}
use Rattle.pic_settings.specs.Keys.{grid_keys, cell_limits, bit_limits, grid}
use Rattle.pic_deck_laws.specs.Spelling.{natural, naturals, by_axis, Has, HasOnly, HasTable}
use Rattle.pic_deck_laws.specs.Tests.{Test, test, MakesTests}
use Rattle.pic_deck_laws.specs.ValueTests.{number_of, items_of, members_of, sizes_of, value_at}
use Rattle.pic_deck_laws.specs.ValueTests.{limit_test, number_tests, array_tests, numbers_tests, table_tests, needed_tests}

-- a table spells the cells with their side and the tiles of a deck of a version: it has the cells by axis, the
-- tiles by axis and, in version 2, the power of two that the side is, and nothing else; the version allows such
-- a grid, and it can be cut so
pub record IsGridTable (version : ℕ) (t : Members) (g : Grid) (ts : List ℕ) : Type 0 where
  pub keys : HasOnly (grid_keys version) t
  pub cells : Has t (codes "cells") (by_axis g.n)
  pub tiles : Has t (codes "tiles") (naturals ts)
  pub sub : version ≢ 1 → Has t (codes "sub") (natural (bits_of g.side))
  pub some : IsCells g.n
  pub allowed : IsGridOf version g.n g.side
  pub three : length ts ≡ 3
  pub cut : AreTiles g.n (triple ts)

-- a grid and its tiles are what a deck has exactly where its table at `grid` spells them
abbrev pub GridsAreSpelled : Type 0
GridsAreSpelled =
    (version : ℕ) (ms : Members) (g : Grid) (ts : List ℕ)
    → (grid version ms ≡ Ok (g, ts)) ↔ HasTable ms (codes "grid") (λ t. IsGridTable version t g ts)

-- the tiles of an axis of n cells: a number, from 1 to half the cells, and none is left over
unfoldable pub axis_tests : ℕ → List ℕ → Data → List Test
axis_tests n path d =
    test (is_some (as_integer d)) (Kind path)
    ∷ limit_test (from_to (pos 1) (pos (n / 2))) path (number_of d)
    ∷ limit_test (from_to (pos 0) (pos 0)) path (pos (n % unsigned_abs (number_of d)))
    ∷ []

-- the tiles of the three axes, of which ns are the cells, and then of all together
unfoldable pub tiles_tests : List ℕ → List ℕ → Data → List Test
tiles_tests ns path d =
    array_tests 3 (λ i. axis_tests (slice_index ns i)) path d
    ++ (limit_test (from_to (pos 1) (pos most_tiles)) path (pos (count_of (triple (sizes_of (items_of d))))) ∷ [])

-- the side of a cell
unfoldable pub side_tests : ℕ → Members → List Test
side_tests version t =
    if version == 1 then []
    else needed_tests (number_tests (bit_limits version)) (codes "sub") (codes "grid") t

-- the keys of a table `grid`
unfoldable pub grid_key_tests : ℕ → Members → List Test
grid_key_tests version t =
    needed_tests (numbers_tests (cell_limits version)) (codes "cells") (codes "grid") t
    ++ (needed_tests (tiles_tests (sizes_of (items_of (value_at (codes "cells") t)))) (codes "tiles") (codes "grid") t
    ++ side_tests version t)

-- the table `grid`
unfoldable pub grid_tests : ℕ → Members → List Test
grid_tests version ms =
    needed_tests (table_tests (grid_keys version)) (codes "grid") [] ms
    ++ grid_key_tests version (members_of (value_at (codes "grid") ms))

-- the walk of the grid makes these tests
abbrev pub GridsAreTested : Type 0
GridsAreTested = (version : ℕ) (ms : Members) → MakesTests (grid_tests version ms) (grid version ms)
