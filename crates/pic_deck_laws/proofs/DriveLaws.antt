-- The loops `drive`: a walk accepts them exactly where a value spells them, and makes their tests.
use Rattle.std.proofs.Common.{◌≡◌, ℕ, zero, suc, ℤ, pos, ◌≤◌, ◌<◌, ◌≤ℤ◌, List, [], length, slice_index, Some, Ok, refl, sym, ap, ◌∙◌, subst, lit<, arith}
use Rattle.std.specs.Prelude.{codes}
use Rattle.std.proofs.lemmas.Int.{ints}
use Rattle.toml.specs.Data.{Data, integer, Members}
use Rattle.pic_num.specs.declared.axis.Axis.{Axis}
use Rattle.pic_num.specs.declared.axis.Axis.TheVariants.{X, Y, Z}
use Rattle.pic_num.specs.Limits.{most_loops, most_drive, most_wave}
use Rattle.pic_num.specs.Sizes.{IsAtMost}
use Rattle.pic_num.specs.Space.{Triple, triple, axis_number}
use Rattle.pic_block.specs.Cells.{IsCells, IsWithin, axis_of}
use Rattle.pic_grid.specs.declared.loops.Loop.{Loop}
use Rattle.pic_walk.specs.Limits.{from_to, MeetsLimits, limits_at}
use Rattle.pic_walk.specs.Walk.{◌>>=◌, elements, count_of_items, table_of}
use Rattle.pic_walk.proofs.LimitLaws.{met, meets}
use Rattle.pic_walk.proofs.WalkLaws.{then_ok, went}
use Rattle.pic_devices.specs.Drive.{loop_keys, axis_limits, axis, cell_limits, drive_limits, wave_limits, amplitude, wave, loop_in, one_loop, drive_list}
use Rattle.pic_devices.specs.Lists.{list_within}
use Rattle.pic_deck_laws.specs.Spelling.{natural, integers, naturals, HasOnly, IsTable}
use Rattle.pic_deck_laws.specs.ValueTests.{members_of, number_tests}
use Rattle.pic_deck_laws.specs.DriveTable.{IsLoopTable, AreLoopTables, LoopsAreSpelled, wave_tests}
use Rattle.pic_deck_laws.specs.DriveTable.{loop_key_tests, loop_tests, drive_tests, LoopsAreTested}
use Rattle.pic_deck_laws.proofs.TestLaws.{Along, makes_tests, then_along, last_along}
use Rattle.pic_deck_laws.proofs.WalkTests.{number_along, whole_along, three_along, table_along, need_along}
use Rattle.pic_deck_laws.proofs.ValueLaws.{limited_ok, limited_from, whole_ok, whole_from, FitFrom, WithinToo, Natural, three_ok, three_from}
use Rattle.pic_deck_laws.proofs.ValueLaws.{three_fit, fit_three, need_ok, need_from, table_ok, table_from}
use Rattle.pic_deck_laws.proofs.ListLaws.{list_within_along, limited_along, list_ok, list_from, counted_ok, counted_from, elements_is, elements_from}
use Rattle.pic_deck_laws.proofs.ListLaws.{each_read, read_each, elements_ok, ok_elements, all_fit, fit_all}

-- An axis
pub number_back : (k : ℕ) → k ≤ 2 → axis_number (axis_of k) ≡ k
number_back zero h = refl
number_back (suc zero) h = refl
number_back (suc (suc zero)) h = refl
number_back (suc (suc (suc k))) h = absurd (omega (arith, h))

pub axis_back : (a : Axis) → axis_of (axis_number a) ≡ a
axis_back X = refl
axis_back Y = refl
axis_back Z = refl

pub number_most : (a : Axis) → axis_number a ≤ 2
number_most X = omega arith
number_most Y = omega arith
number_most Z = omega arith

axis_ok : (path : List ℕ) (d : Data) (a : Axis) → axis path d ≡ Ok a → d ≡ natural (axis_number a)
unfolding axis
axis_ok path d a e =
    let w = went _ _ _ e in
    let number = whole_ok axis_limits path d w.value (omega (arith, ints)) w.first in
    let same : axis_of w.value ≡ a = cc w.then in
    number.is ∙ ap natural (sym (number_back w.value (omega (arith, ints, number.within.high))) ∙ ap axis_number same)

axis_from : (path : List ℕ) (a : Axis) → axis path (natural (axis_number a)) ≡ Ok a
unfolding axis
axis_from path a =
    then_ok _ (axis_number a) _ (whole_from axis_limits path (axis_number a)
    (record { low = omega (arith, ints); high = omega (arith, ints, number_most a) }))
    ∙ ap Ok (axis_back a)

-- A cell
pub cell_low : (n : Triple) → Natural (cell_limits n)
unfolding limits_at
cell_low n = record { low = low }
  where
    low : (k : ℕ) → pos 0 ≤ℤ (limits_at (cell_limits n) k).low
    low zero = omega (arith, ints)
    low (suc zero) = omega (arith, ints)
    low (suc (suc zero)) = omega (arith, ints)
    low (suc (suc (suc k))) = omega (arith, ints)

cell_in : (n : Triple) (ns : List ℕ) → IsCells n → ((k : ℕ) → k < 3 → WithinToo (cell_limits n) k (slice_index ns k)) → IsWithin (triple ns) n
unfolding limits_at
cell_in n ns cells inside = record {
  x = omega (arith, ints, (inside 0 (lit< tt)).high, cells.x_least);
  y = omega (arith, ints, (inside 1 (lit< tt)).high, cells.y_least);
  z = omega (arith, ints, (inside 2 (lit< tt)).high, cells.z_least);
}

in_cell : (n : Triple) (ns : List ℕ) → length ns ≡ 3 → IsWithin (triple ns) n → FitFrom (WithinToo (cell_limits n)) 0 ns
unfolding limits_at
in_cell n ns size is =
    fit_three (WithinToo (cell_limits n)) ns size
    (record { low = omega (arith, ints); high = omega (arith, ints, is.x) })
    (record { low = omega (arith, ints); high = omega (arith, ints, is.y) })
    (record { low = omega (arith, ints); high = omega (arith, ints, is.z) })

-- A wave
weak : (z : ℤ) → MeetsLimits drive_limits z → IsAtMost z most_drive
weak z m = record { size = omega (arith, ints, m.low, m.high) }

weak_too : (z : ℤ) → IsAtMost z most_drive → MeetsLimits drive_limits z
weak_too z is = record { low = omega (arith, ints, is.size); high = omega (arith, ints, is.size) }

record IsWave (d : Data) (zs : List ℤ) : Type 0 where
  is : d ≡ integers zs
  fit : FitFrom (λ _ z. IsAtMost z most_drive) 0 zs
  some : 1 ≤ length zs
  most : length zs ≤ most_wave

wave_ok : (path : List ℕ) (d : Data) (zs : List ℤ) → wave path d ≡ Ok zs → IsWave d zs
unfolding wave list_within amplitude
wave_ok path d zs e =
    let w = went _ _ _ e in
    let found =
    list_ok amplitude integer (λ _ z. IsAtMost z most_drive)
    (λ done p v z is. let number = limited_ok drive_limits p v z is in (number.is, weak z number.within)) path d w.value w.first
    in
    let counts = counted_ok wave_limits path w.value zs w.then in
    subst (IsWave d) counts.0 (record {
      is = found.is;
      fit = found.fit;
      some = omega (arith, ints, counts.1.low);
      most = omega (arith, ints, counts.1.high);
    })

wave_from : (path : List ℕ) (zs : List ℤ) → FitFrom (λ _ z. IsAtMost z most_drive) 0 zs → 1 ≤ length zs → length zs ≤ most_wave
    → wave path (integers zs) ≡ Ok zs
unfolding wave list_within amplitude
wave_from path zs fit some most =
    then_ok _ zs _ (list_from amplitude integer (λ _ z. IsAtMost z most_drive)
    (λ done p z is. limited_from drive_limits p z (weak_too z is)) path zs fit)
    ∙ counted_from wave_limits path zs (record { low = omega (arith, ints, some); high = omega (arith, ints, most) })

-- A loop
loop_in_ok : (n : Triple) → IsCells n → (path : List ℕ) (t : Members) (l : Loop) → HasOnly loop_keys t → loop_in n path t ≡ Ok l → IsLoopTable n t l
unfolding loop_in
loop_in_ok n cells path t l keys e =
    let a = went _ _ _ e in
    let b = went _ _ _ a.then in
    let c = went _ _ _ b.then in
    let across = need_ok _ _ _ t a.value a.first in
    let cell = need_ok _ _ _ t b.value b.first in
    let is = three_ok (cell_limits n) (cell_low n) _ cell.value b.value cell.reads in
    let waves = need_ok _ _ _ t c.value c.first in
    let numbers = wave_ok _ waves.value c.value waves.reads in
    let made : Loop = record { axis = a.value; cell = b.value; wave = c.value } in
    let same : made ≡ l = cc c.then in
    subst (IsLoopTable n t) same (record {
      keys = keys;
      axis = across.has ∙ ap (λ x. Some x) (axis_ok _ across.value a.value across.reads);
      cell = cell.has ∙ ap (λ x. Some x) is.is;
      wave = waves.has ∙ ap (λ x. Some x) numbers.is;
      three = is.size;
      allowed = record {
        within = cell_in n b.value cells (three_fit (WithinToo (cell_limits n)) b.value is.size is.fit);
        some = numbers.some;
        most = numbers.most;
        sizes = all_fit (λ (z : ℤ). IsAtMost z most_drive) 0 c.value numbers.fit;
      };
    })

loop_in_from : (n : Triple) (path : List ℕ) (t : Members) (l : Loop) → IsLoopTable n t l → loop_in n path t ≡ Ok l
unfolding loop_in
loop_in_from n path t l is =
    then_ok _ l.axis _ (need_from _ _ _ t (natural (axis_number l.axis)) l.axis is.axis (axis_from _ l.axis))
    ∙ then_ok _ l.cell _ (need_from _ _ _ t (naturals l.cell) l.cell is.cell
    (three_from (cell_limits n) _ l.cell is.three (in_cell n l.cell is.three is.allowed.within)))
    ∙ then_ok _ l.wave _ (need_from _ _ _ t (integers l.wave) l.wave is.wave
    (wave_from _ l.wave (fit_all (λ (z : ℤ). IsAtMost z most_drive) 0 l.wave is.allowed.sizes) is.allowed.some is.allowed.most))

abbrev Spells : Triple → List Loop → Data → Loop → Type 0
Spells n done d l = IsTable d (λ t. IsLoopTable n t l)

one_ok : (n : Triple) → IsCells n → (done : List Loop) (path : List ℕ) (d : Data) (l : Loop) → one_loop n done path d ≡ Ok l → Spells n done d l
unfolding one_loop
one_ok n cells done path d l e =
    let w = went _ _ _ e in
    let is = table_ok loop_keys path d w.value w.first in
    record { members = w.value; there = is.0; holds = loop_in_ok n cells path w.value l is.1 w.then }

one_from : (n : Triple) (done : List Loop) (path : List ℕ) (d : Data) (l : Loop) → Spells n done d l → one_loop n done path d ≡ Ok l
unfolding one_loop
one_from n done path d l is =
    ap (λ (v : Data). table_of loop_keys path v >>= loop_in n path) is.there
    ∙ then_ok _ is.members _ (table_from loop_keys path is.members is.holds.keys)
    ∙ loop_in_from n path is.members l is.holds

-- All loops
drive_ok : (n : Triple) → IsCells n → (path : List ℕ) (d : Data) (loops : List Loop) → drive_list n path d ≡ Ok loops → AreLoopTables n d loops
unfolding drive_list
drive_ok n cells path d loops e =
    let w = went _ _ _ e in
    let v = went _ _ _ w.then in
    let few = meets _ _ _ _ v.first in
    let read = each_read (one_loop n) (Spells n) (one_ok n cells) path [] w.value loops v.then in
    let are = elements_ok (Spells n) w.value loops read in
    record {
      tables = record { items = w.value; there = elements_is path d w.value w.first; elements = are };
      few = omega (arith, ints, few.high, are.count);
    }

drive_from : (n : Triple) (path : List ℕ) (d : Data) (loops : List Loop) → AreLoopTables n d loops → drive_list n path d ≡ Ok loops
unfolding drive_list
drive_from n path d loops is =
    let ds = is.tables.items in
    then_ok _ ds _ (ap (elements path) is.tables.there ∙ elements_from path ds)
    ∙ then_ok _ (pos (count_of_items ds)) _ (met (from_to (pos 0) (pos most_loops)) path (pos (count_of_items ds))
    (record { low = omega (arith, ints); high = omega (arith, ints, is.few, is.tables.elements.count) }))
    ∙ read_each (one_loop n) (Spells n) (one_from n) path [] ds loops (ok_elements (Spells n) ds loops is.tables.elements)

pub loops_are_spelled : LoopsAreSpelled
loops_are_spelled n cells path d loops = (drive_ok n cells path d loops, drive_from n path d loops)

-- The tests
axis_along : (path : List ℕ) (d : Data) → Along (number_tests axis_limits path d) (axis path d)
unfolding axis
axis_along path d = last_along _ _ (whole_along axis_limits path d)

amplitude_along : (done : List ℤ) (path : List ℕ) (d : Data) → Along (number_tests drive_limits path d) (amplitude done path d)
unfolding amplitude
amplitude_along done path d = number_along drive_limits path d

wave_along : (path : List ℕ) (d : Data) → Along (wave_tests path d) (wave path d)
unfolding wave wave_tests
wave_along path d = list_within_along wave_limits amplitude _ amplitude_along path d

loop_in_along : (n : Triple) (path : List ℕ) (t : Members) → Along (loop_key_tests n path t) (loop_in n path t)
unfolding loop_in loop_key_tests
loop_in_along n path t =
    then_along _ _ (need_along _ _ axis_along (codes "axis") path t)
    (λ a _. then_along _ _ (need_along _ _ (three_along (cell_limits n)) (codes "cell") path t)
    (λ cell _. last_along _ _ (need_along _ _ wave_along (codes "wave") path t)))

one_along : (n : Triple) (done : List Loop) (path : List ℕ) (d : Data) → Along (loop_tests n path d) (one_loop n done path d)
unfolding one_loop loop_tests
one_along n done path d =
    then_along _ _ (table_along loop_keys path d)
    (λ t is. rw (ap members_of (table_ok loop_keys path d t is).0) (loop_in_along n path t))

pub drive_along : (n : Triple) (path : List ℕ) (d : Data) → Along (drive_tests n path d) (drive_list n path d)
unfolding drive_list drive_tests
drive_along n path d = limited_along (from_to (pos 0) (pos most_loops)) (one_loop n) _ (one_along n) path d

pub loops_are_tested : LoopsAreTested
loops_are_tested n path d = makes_tests _ _ (drive_along n path d)
