-- The table `grid`: a walk accepts it exactly where it spells a grid, and makes its tests.
use Rattle.std.proofs.Common.{◌≡◌, ◌≢◌, ℕ, ◌≤◌, ℤ, pos, ◌==◌, ◌/◌, ◌%◌, ◌^◌, ◌≤ℤ◌, List, [], ◌∷◌, length, slice_index}
use Rattle.std.proofs.Common.{Option, Some, Ok, unsigned_abs, inl, inr, refl, sym, ap, ◌∙◌, subst, arith}
use Rattle.std.specs.Prelude.{codes}
use Rattle.std.proofs.lemmas.Bool.{cases_eq}
use Rattle.std.proofs.lemmas.Int.{ints}
use Rattle.std.proofs.Math.Nat.{le_trans, le_refl}
use Rattle.toml.specs.Data.{Data, integer, Members}
use Rattle.pic_num.specs.Limits.{allowance_of}
use Rattle.pic_num.specs.Space.{Triple, triple}
use Rattle.pic_num.specs.Sub.{bits_of, bits_of-side}
use Rattle.pic_num.specs.Versions.{IsSideOf, IsGridOf}
use Rattle.pic_num.proofs.VersionLaws.{within_scheme, side_of_bits}
use Rattle.pic_block.specs.Cells.{Grid, IsCells, count_of}
use Rattle.pic_grid.specs.Tiles.{IsTiled, most_tiles}
use Rattle.pic_walk.specs.Limits.{from_to, limits_at}
use Rattle.pic_walk.specs.Walk.{Walked, ◌>>=◌, some_or, number, within, whole, three, array_of, need}
use Rattle.pic_walk.proofs.LimitLaws.{meets}
use Rattle.pic_walk.proofs.WalkLaws.{then_ok, went}
use Rattle.pic_settings.specs.Keys.{grid_keys, cell_limits, bit_limits, axis_tiles, next_tiles, tiles, side_in, grid}
use Rattle.pic_settings.specs.Tiles.{tiles_of_axis, few_tiles}
use Rattle.pic_settings.proofs.GridLaws.{cells_within, few_within, allowed, bits_least, bits_most, side_of_first, side_of_further, tiles_within}
use Rattle.pic_settings.proofs.TileLaws.{axis_tiled, tiled_axis, few_in_all, in_all_few, some_tiles}
use Rattle.pic_deck_laws.specs.Spelling.{natural, naturals, by_axis, Has, HasTable}
use Rattle.pic_deck_laws.specs.ValueTests.{sizes_of, items_of, or_empty, value_at, limit_test}
use Rattle.pic_deck_laws.specs.GridTable.{IsGridTable, GridsAreSpelled, axis_tests, tiles_tests, side_tests, grid_key_tests, grid_tests, GridsAreTested}
use Rattle.pic_deck_laws.proofs.TestLaws.{Along, makes_tests, then_along, last_along, branch_along}
use Rattle.pic_deck_laws.proofs.WalkTests.{within_along, within_then, array_along, whole_along, three_along, table_along, need_along}
use Rattle.pic_deck_laws.proofs.ValueLaws.{natural_is, number_is, whole_from, IsArray, FitFrom, array_ok, array_from, WithinToo, three_ok, three_from}
use Rattle.pic_deck_laws.proofs.ValueLaws.{three_fit, fit_three, three_of, thrice_low, need_ok, need_from, need_whole_ok, need_table_ok, need_table_from}
use Rattle.pic_deck_laws.proofs.ValueLaws.{table_found, sizes_spelled}

-- The cells
cells_low : (version : ℕ) → pos 0 ≤ℤ (from_to (pos 2) (pos (allowance_of version).cells)).low
cells_low version = omega (arith, ints)

need_cells_ok : (version : ℕ) (t : Members) (ns : List ℕ) → need (three (cell_limits version)) (codes "cells") (codes "grid") t ≡ Ok ns
    → Has t (codes "cells") (naturals ns) × (length ns ≡ 3) × FitFrom (WithinToo (cell_limits version)) 0 ns
need_cells_ok version t ns e =
    let found = need_ok _ _ _ t ns e in
    let is = three_ok (cell_limits version) (thrice_low _ (cells_low version)) _ found.value ns found.reads in
    (found.has ∙ ap (λ x. Some x) is.is, is.size, is.fit)

cells_fit : (version : ℕ) (n : Triple) (side : ℕ) → IsCells n → IsGridOf version n side → FitFrom (WithinToo (cell_limits version)) 0 (n.x ∷ n.y ∷ n.z ∷ [])
unfolding limits_at
cells_fit version n side some allows = (
  record { low = omega (arith, ints, some.x_least); high = omega (arith, ints, allows.x) },
  (
    record { low = omega (arith, ints, some.y_least); high = omega (arith, ints, allows.y) },
    (record { low = omega (arith, ints, some.z_least); high = omega (arith, ints, allows.z) }, tt),
  ),
)

need_cells_from : (version : ℕ) (t : Members) (n : Triple) (side : ℕ) → Has t (codes "cells") (by_axis n) → IsCells n → IsGridOf version n side
    → need (three (cell_limits version)) (codes "cells") (codes "grid") t ≡ Ok (n.x ∷ n.y ∷ n.z ∷ [])
need_cells_from version t n side has some allows =
    need_from _ _ _ t (by_axis n) _ has (three_from (cell_limits version) _ (n.x ∷ n.y ∷ n.z ∷ []) refl (cells_fit version n side some allows))

-- The tiles
abbrev Tiled : List ℕ → ℕ → ℕ → Type 0
Tiled ns i t = IsTiled (slice_index ns i) t

tile_is : (n : ℕ) (path : List ℕ) (z : ℤ) (t : ℕ) → tiles_of_axis n path z ≡ Ok t → z ≡ pos t
unfolding tiles_of_axis
tile_is n path z t e =
    let range = went _ _ _ e in
    let inside = meets _ _ _ _ range.first in
    let left = went _ _ _ range.then in
    let size : unsigned_abs z ≡ t = cc left.then in
    natural_is z t (omega (arith, ints, inside.low)) size

axis_ok : (n : ℕ) (path : List ℕ) (d : Data) (t : ℕ) → axis_tiles n path d ≡ Ok t → (d ≡ natural t) × IsTiled n t
unfolding axis_tiles
axis_ok n path d t e =
    let w = went _ _ _ e in
    let same : w.value ≡ pos t = tile_is n path w.value t w.then in (
      number_is path d w.value w.first ∙ ap integer same,
      axis_tiled n path t t (subst (λ (z : ℤ). tiles_of_axis n path z ≡ Ok t) same w.then),
    )

axis_from : (n : ℕ) (path : List ℕ) (t : ℕ) → IsTiled n t → axis_tiles n path (natural t) ≡ Ok t
unfolding axis_tiles number some_or ◌>>=◌
axis_from n path t is = tiled_axis n path t is

few_same : (path ts us : List ℕ) → few_tiles path ts ≡ Ok us → ts ≡ us
unfolding few_tiles
few_same path ts us e = let w = went _ _ _ e in cc w.then

next_tiles_ok : (ns path : List ℕ) (d : Data) (ts : List ℕ) → array_of 3 (next_tiles ns) path d ≡ Ok ts → IsArray natural (Tiled ns) 3 d ts
unfolding next_tiles
next_tiles_ok ns path d ts e =
    array_ok (next_tiles ns) natural (Tiled ns) (λ done p v t h. axis_ok (slice_index ns (length done)) p v t h) 3 path d ts e

tiles_ok : (ns path : List ℕ) (d : Data) (ts : List ℕ) → tiles ns path d ≡ Ok ts → IsArray natural (Tiled ns) 3 d ts × (count_of (triple ts) ≤ most_tiles)
unfolding tiles
tiles_ok ns path d ts e =
    let w = went _ _ _ e in
    let same : w.value ≡ ts = few_same path w.value ts w.then in (
      subst (IsArray natural (Tiled ns) 3 d) same (next_tiles_ok ns path d w.value w.first),
      subst (λ (us : List ℕ). count_of (triple us) ≤ most_tiles) same (few_in_all path w.value ts w.then),
    )

tiles_from : (ns path ts : List ℕ) → length ts ≡ 3 → FitFrom (Tiled ns) 0 ts → 1 ≤ count_of (triple ts) → count_of (triple ts) ≤ most_tiles
    → tiles ns path (naturals ts) ≡ Ok ts
unfolding tiles next_tiles
tiles_from ns path ts size fit some few =
    then_ok _ ts _ (array_from (next_tiles ns) natural (Tiled ns) (λ done p t is. axis_from (slice_index ns (length done)) p t is) 3 path ts size fit)
    ∙ in_all_few path ts some few

-- The side
same_bits : (version : ℕ) → version ≡ 1 → (allowance_of version).greatest_bits ≤ (allowance_of version).least_bits
same_bits version one = subst (λ (v : ℕ). (allowance_of v).greatest_bits ≤ (allowance_of v).least_bits) (sym one) (le_refl _)

bits_low : (version : ℕ) → pos 0 ≤ℤ (bit_limits version).low
bits_low version = omega (arith, ints)

pub record IsSideIn (version : ℕ) (t : Members) (side : ℕ) : Type 0 where
  pub allowed : IsSideOf version side
  pub sub : version ≢ 1 → Has t (codes "sub") (natural (bits_of side))

further_side_ok : (version : ℕ) (t : Members) (side : ℕ)
    → need (whole (bit_limits version)) (codes "sub") (codes "grid") t >>= (λ bits. Ok (2 ^ bits)) ≡ Ok side
    → IsSideIn version t side
further_side_ok version t side e =
    let w = went _ _ _ e in
    let found = need_whole_ok (bit_limits version) (codes "sub") (codes "grid") t w.value (bits_low version) w.first in
    let least = bits_least version w.value found.1 in
    let most = bits_most version w.value found.1 in
    let scheme = within_scheme version in
    let bits : bits_of (2 ^ w.value) ≡ w.value = bits_of-side w.value (le_trans scheme.least_bits least) (le_trans most scheme.greatest_bits) in
    let same : 2 ^ w.value ≡ side = cc w.then in
    subst (IsSideIn version t) same (record {
      allowed = side_of_bits version w.value least most;
      sub = λ further. found.0 ∙ ap (λ (k : ℕ). Some (natural k)) (sym bits);
    })

side_ok : (version : ℕ) (t : Members) (side : ℕ) → side_in version t ≡ Ok side → IsSideIn version t side
side_ok version t side e = elim (cases_eq version 1) [
  | inl one ↦
      (let same : 2 ^ (allowance_of version).least_bits ≡ side = cc (sym (side_of_first version t one) ∙ e) in
      subst (IsSideIn version t) same (record {
        allowed = side_of_bits version (allowance_of version).least_bits (le_refl _) (within_scheme version).sides;
        sub = λ further. absurd (further one);
      }))
  | inr further ↦ further_side_ok version t side (sym (side_of_further version t further) ∙ e)
]

side_from : (version : ℕ) (t : Members) (side : ℕ) → IsSideIn version t side → side_in version t ≡ Ok side
side_from version t side is = elim (cases_eq version 1) [
  | inl one ↦
      (let same : (allowance_of version).least_bits ≡ bits_of side = omega (arith, same_bits version one, is.allowed.least, is.allowed.most) in
      side_of_first version t one ∙ ap (λ (k : ℕ). Ok (2 ^ k)) same ∙ ap Ok (sym is.allowed.power))
  | inr further ↦
      side_of_further version t further
      ∙ then_ok _ (bits_of side) _ (need_from _ _ _ t (natural (bits_of side)) (bits_of side) (is.sub further)
      (whole_from (bit_limits version) _ (bits_of side)
      (record { low = omega (arith, ints, is.allowed.least); high = omega (arith, ints, is.allowed.most) })))
      ∙ ap Ok (sym is.allowed.power)
]

-- The table
grid_ok : (version : ℕ) (ms : Members) (g : Grid) (ts : List ℕ) → grid version ms ≡ Ok (g, ts)
    → HasTable ms (codes "grid") (λ t. IsGridTable version t g ts)
unfolding grid
grid_ok version ms g ts e =
    let a = went _ _ _ e in
    let b = went _ _ _ a.then in
    let c = went _ _ _ b.then in
    let d = went _ _ _ c.then in
    let ns = b.value in
    let table = need_table_ok (grid_keys version) (codes "grid") [] ms a.value a.first in
    let cells = need_cells_ok version a.value ns b.first in
    let inside = three_fit (WithinToo (cell_limits version)) ns cells.1 cells.2 in
    let found = need_ok _ _ _ a.value c.value c.first in
    let tiled = tiles_ok ns _ found.value c.value found.reads in
    let side = side_ok version a.value d.value d.first in
    let made : Grid × List ℕ = (record { n = triple ns; side = d.value }, c.value) in
    let same : made ≡ (g, ts) = cc d.then in
    subst (λ (p : Grid × List ℕ). HasTable ms (codes "grid") (λ t. IsGridTable version t p.0 p.1)) same (record {
      members = a.value;
      there = table.0;
      holds = record {
        keys = table.1;
        cells = cells.0 ∙ ap (λ (ms : List ℕ). Some (naturals ms)) (three_of ns cells.1);
        tiles = found.has ∙ ap (λ x. Some x) tiled.0.is;
        sub = side.sub;
        some = cells_within version ns inside;
        allowed = allowed version ns d.value (few_within version ns inside) side.allowed;
        three = tiled.0.size;
        cut = tiles_within ns c.value (three_fit (Tiled ns) c.value tiled.0.size tiled.0.fit) tiled.1;
      };
    })

grid_from : (version : ℕ) (ms : Members) (g : Grid) (ts : List ℕ) → HasTable ms (codes "grid") (λ t. IsGridTable version t g ts)
    → grid version ms ≡ Ok (g, ts)
unfolding grid
grid_from version ms g ts has =
    let t = has.members in
    let is = has.holds in
    let ns : List ℕ = g.n.x ∷ g.n.y ∷ g.n.z ∷ [] in
    then_ok _ t _ (need_table_from (grid_keys version) (codes "grid") [] ms t has.there is.keys)
    ∙ then_ok _ ns _ (need_cells_from version t g.n g.side is.cells is.some is.allowed)
    ∙ then_ok _ ts _ (need_from _ _ _ t (naturals ts) ts is.tiles
    (tiles_from ns _ ts is.three (fit_three (Tiled ns) ts is.three is.cut.x is.cut.y is.cut.z)
    (some_tiles g.n (triple ts) is.cut.x is.cut.y is.cut.z) is.cut.most))
    ∙ then_ok _ g.side _ (side_from version t g.side (record { allowed = is.allowed.sides; sub = is.sub }))

pub grids_are_spelled : GridsAreSpelled
grids_are_spelled version ms g ts = (grid_ok version ms g ts, grid_from version ms g ts)

-- The tests
axis_along : (n : ℕ) (path : List ℕ) (d : Data) → Along (axis_tests n path d) (axis_tiles n path d)
unfolding axis_tiles tiles_of_axis number some_or ◌>>=◌ axis_tests
axis_along n path (integer z) =
    record {
      is = (within_then (from_to (pos 1) (pos (n / 2))) path z
          (λ _. within (from_to (pos 0) (pos 0)) path (pos (n % unsigned_abs z)) >>= (λ _. Ok (unsigned_abs z)))
          (last_along _ (λ _. unsigned_abs z) (within_along (from_to (pos 0) (pos 0)) path (pos (n % unsigned_abs z))))).is;
    }
axis_along n path _ = record { is = refl }

few_along : (path ts : List ℕ) → Along (limit_test (from_to (pos 1) (pos most_tiles)) path (pos (count_of (triple ts))) ∷ []) (few_tiles path ts)
unfolding few_tiles
few_along path ts = last_along _ (λ _. ts) (within_along (from_to (pos 1) (pos most_tiles)) path (pos (count_of (triple ts))))

tiles_found : (ns path : List ℕ) (d : Data) (ts : List ℕ) → array_of 3 (next_tiles ns) path d ≡ Ok ts → sizes_of (items_of d) ≡ ts
tiles_found ns path d ts e =
    let is = next_tiles_ok ns path d ts e in
    ap (λ (v : Data). sizes_of (items_of v)) is.is ∙ sizes_spelled ts

next_along : (ns done path : List ℕ) (d : Data) → Along (axis_tests (slice_index ns (length done)) path d) (next_tiles ns done path d)
unfolding next_tiles
next_along ns done path d = axis_along (slice_index ns (length done)) path d

tiles_along : (ns path : List ℕ) (d : Data) → Along (tiles_tests ns path d) (tiles ns path d)
unfolding tiles tiles_tests
tiles_along ns path d =
    then_along _ _ (array_along 3 (next_tiles ns) (λ i. axis_tests (slice_index ns i)) (next_along ns) path d)
    (λ ts is. subst (λ (us : List ℕ). Along (limit_test (from_to (pos 1) (pos most_tiles)) path (pos (count_of (triple us))) ∷ []) (few_tiles path ts))
    (sym (tiles_found ns path d ts is)) (few_along path ts))

side_along : (version : ℕ) (t : Members) → Along (side_tests version t) (side_in version t)
unfolding side_in side_tests
side_along version t =
    branch_along (version == 1) _
    (last_along _ (λ (bits : ℕ). 2 ^ bits) (need_along _ _ (whole_along (bit_limits version)) (codes "sub") (codes "grid") t))

cells_found : (version : ℕ) (t : Members) (ns : List ℕ) → need (three (cell_limits version)) (codes "cells") (codes "grid") t ≡ Ok ns
    → sizes_of (items_of (value_at (codes "cells") t)) ≡ ns
cells_found version t ns e =
    ap (λ (o : Option Data). sizes_of (items_of (or_empty o))) (need_cells_ok version t ns e).0 ∙ sizes_spelled ns

abbrev key_walk : ℕ → Members → Walked (Grid × List ℕ)
key_walk version t =
    need (three (cell_limits version)) (codes "cells") (codes "grid") t
    >>= (λ ns. need (tiles ns) (codes "tiles") (codes "grid") t
    >>= (λ ts. side_in version t
    >>= (λ side. Ok (record { n = triple ns; side = side }, ts))))

keys_along : (version : ℕ) (t : Members) → Along (grid_key_tests version t) (key_walk version t)
unfolding grid_key_tests
keys_along version t =
    then_along _ _ (need_along _ _ (three_along (cell_limits version)) (codes "cells") (codes "grid") t)
    (λ ns is. rw (cells_found version t ns is)
    (then_along _ _ (need_along _ _ (tiles_along ns) (codes "tiles") (codes "grid") t)
    (λ ts _. last_along _ _ (side_along version t))))

pub grid_along : (version : ℕ) (ms : Members) → Along (grid_tests version ms) (grid version ms)
unfolding grid grid_tests
grid_along version ms =
    then_along _ _ (need_along _ _ (table_along (grid_keys version)) (codes "grid") [] ms)
    (λ t is. rw (table_found (grid_keys version) (codes "grid") [] ms t is) (keys_along version t))

pub grids_are_tested : GridsAreTested
grids_are_tested version ms = makes_tests _ _ (grid_along version ms)
