-- The tests of what fills a species, in their order. What they take from earlier species is what the
-- tables of these say: the name, the charge, and how many particles there are.
use Rattle.std.specs.Prelude.{ℕ, zero, ℤ, pos, neg_ℤ, false, position, bytes_eq, unsigned_abs, filter, drop, map, is_some, slice_get}
use Rattle.std.specs.Prelude.{slice_index_or, List, [], ◌∷◌, ◌++◌, codes, Option, Some, None}
use Rattle.toml.specs.Data.{Data, string, Members, as_str}
use Rattle.pic_num.specs.Limits.{allowance_of}
use Rattle.pic_num.specs.Space.{triple}
use Rattle.pic_block.specs.Cells.{count_of}
use Rattle.pic_walk.specs.declared.fault.Fault.TheVariants.{Unknown, Missing, Kind, Name}
use Rattle.pic_walk.specs.declared.fill_kind.FillKind.{FillKind}
use Rattle.pic_walk.specs.declared.fill_kind.FillKind.TheVariants.{Points, Lattice, Random, Pair, Displace}
use Rattle.pic_walk.specs.Displacement.{way_limits}
use Rattle.pic_walk.specs.Draw.{seed_limits, drift_limits, spread_limits}
use Rattle.pic_walk.specs.FillKind.{sources, source_key, has}
use Rattle.pic_walk.specs.Limits.{from_to, thrice}
use Rattle.pic_walk.specs.Path.{key_at}
use Rattle.pic_walk.specs.Points.{speed_limits, point_limits}
use Rattle.pic_walk.specs.Sites.{place_limits, gap_limits, count_limits}
use Rattle.pic_walk.specs.Terms.{TermsView}
use Rattle.pic_walk.specs.Walk.{count_of_items}
use Rattle.pic_deck.specs.Fill.{lattice_keys, random_keys, pair_keys, displace_keys}
use Rattle.pic_deck_laws.specs.Tests.{Test, test}
use Rattle.pic_deck_laws.specs.ValueTests.{number_of, items_of, members_of, sizes_of, value_at}
use Rattle.pic_deck_laws.specs.ValueTests.{limit_test, number_tests, numbers_tests, list_tests, table_tests, needed_tests}

-- what is known of an earlier species
pub record Known : Type 0 where
  pub name : List ℕ
  pub charge : ℤ
  pub count : ℕ

-- of a species that isn't there
abbrev pub no_known : Known
no_known = record { name = []; charge = pos 0; count = 0 }

-- the text that a value is
abbrev pub text_of : Data → List ℕ
text_of (string s) = s
text_of _ = []

-- the number of the first of some species that has a name
abbrev pub number_named : List Known → List ℕ → Option ℕ
number_named known s = position (λ o. bytes_eq o.name s) known

abbrev pub or_zero : Option ℕ → ℕ
or_zero None = zero
or_zero (Some n) = n

-- what is known of the one that a table names at `of`
abbrev pub named_in : List Known → Members → Known
named_in known t = slice_index_or known (or_zero (number_named known (text_of (value_at (codes "of") t)))) no_known

-- the sources that a table has
abbrev pub sources_in : ℕ → Members → List FillKind
sources_in version t = filter (has t) (sources version)

abbrev pub or_points : Option FillKind → FillKind
or_points None = Points
or_points (Some k) = k

-- the first of them
abbrev pub source_in : ℕ → Members → FillKind
source_in version t = or_points (slice_get (sources_in version t) 0)

-- there is a source, and no further one
abbrev pub tests_of_sources : List ℕ → List FillKind → List Test
tests_of_sources path there =
    test (is_some (slice_get there 0)) (Missing (key_at path (codes "points")))
    ∷ map (λ k. test false (Unknown (key_at path (source_key k)))) (drop 1 there)

-- the name of an earlier species
unfoldable pub of_tests : List Known → List ℕ → Data → List Test
of_tests known path d =
    test (is_some (as_str d)) (Kind path)
    ∷ test (is_some (number_named known (text_of d))) (Name path)
    ∷ []

-- the keys of a lattice
unfoldable pub sites_tests : TermsView → List ℕ → Members → List Test
sites_tests t path ms =
    needed_tests (numbers_tests (place_limits t.grid)) (codes "first") path ms
    ++ (needed_tests (numbers_tests (gap_limits t)) (codes "gap") path ms
    ++ (needed_tests (numbers_tests (count_limits t.version)) (codes "count") path ms
    ++ needed_tests (numbers_tests (thrice (speed_limits t.grid.side))) (codes "v") path ms))

-- the keys of what is drawn
unfoldable pub draw_tests : ℕ → List ℕ → Members → List Test
draw_tests side path ms =
    needed_tests (number_tests seed_limits) (codes "seed") path ms
    ++ (needed_tests (number_tests seed_limits) (codes "stream") path ms
    ++ (needed_tests (numbers_tests (drift_limits side)) (codes "drift") path ms
    ++ needed_tests (numbers_tests (spread_limits side)) (codes "spread") path ms))

-- the keys of a displacement
unfoldable pub displacement_tests : ℕ → List ℕ → Members → List Test
displacement_tests side path ms =
    needed_tests (numbers_tests (way_limits side)) (codes "by") path ms
    ++ needed_tests (numbers_tests (thrice (speed_limits side))) (codes "v") path ms

-- how many particles a source may have
abbrev pub particle_limits : ℕ → List ℕ → Data → List Test
particle_limits version path d = number_tests (from_to (pos 0) (pos (allowance_of version).particles)) path d

-- the value of a source, for the species at a path, which has a charge
unfoldable pub source_tests : FillKind → TermsView → List Known → List ℕ → ℤ → List ℕ → Data → List Test
source_tests Points t known species charge path d = list_tests (λ _. numbers_tests (point_limits t.grid)) path d
source_tests Lattice t known species charge path d = table_tests lattice_keys path d ++ sites_tests t path (members_of d)
source_tests Random t known species charge path d =
    table_tests random_keys path d
    ++ (needed_tests (particle_limits t.version) (codes "count") path (members_of d)
    ++ draw_tests t.grid.side path (members_of d))
source_tests Pair t known species charge path d =
    table_tests pair_keys path d
    ++ (needed_tests (of_tests known) (codes "of") path (members_of d)
    ++ draw_tests t.grid.side path (members_of d))
source_tests Displace t known species charge path d =
    table_tests displace_keys path d
    ++ (needed_tests (of_tests known) (codes "of") path (members_of d)
    ++ (limit_test (from_to (neg_ℤ (named_in known (members_of d)).charge) (neg_ℤ (named_in known (members_of d)).charge))
    (key_at species (codes "charge")) charge
    ∷ displacement_tests t.grid.side path (members_of d)))

-- how many particles the value of a source says
abbrev pub said_count : FillKind → List Known → Data → ℕ
said_count Points known d = count_of_items (items_of d)
said_count Lattice known d = count_of (triple (sizes_of (items_of (value_at (codes "count") (members_of d)))))
said_count Random known d = unsigned_abs (number_of (value_at (codes "count") (members_of d)))
said_count Pair known d = (named_in known (members_of d)).count
said_count Displace known d = (named_in known (members_of d)).count

-- what fills the species of a table at a path, which has a charge
unfoldable pub fill_tests : TermsView → List Known → List ℕ → ℤ → Members → List Test
fill_tests t known path charge ms =
    tests_of_sources path (sources_in t.version ms)
    ++ needed_tests (source_tests (source_in t.version ms) t known path charge) (source_key (source_in t.version ms)) path ms
