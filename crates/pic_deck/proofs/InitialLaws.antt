-- The rows of a field, and the values that they add up to.
use Rattle.std.proofs.Common.{◌≡◌, ◌≢◌, ℕ, zero, suc, ◌+◌, ◌*◌, ◌^◌, ◌<◌, ◌≤◌, true, false, List, [], length, get_or}
use Rattle.std.proofs.Common.{slice_index, take, subst, ap, sym, ◌∙◌, inl, inr, eq-eqb, eqb, arith}
use Rattle.std.proofs.Math.IntN.{ℤ, pos, negsuc, ◌+ℤ◌}
use Rattle.std.specs.Prelude.{◌&&◌, unsigned_abs}
use Rattle.std.proofs.lemmas.Bool.{cases_Bool, cases_eq, and_parts, eqb-true}
use Rattle.std.proofs.lemmas.Int.{ints}
use Rattle.std.proofs.lemmas.List.{take_all}
use mir.Syntax.{w64}
use mir.Val.{SFits}
use Rattle.pic_num.specs.declared.axis.Axis.{Axis}
use Rattle.pic_num.specs.Sizes.{IsAtMost}
use Rattle.pic_num.specs.Space.{Triple, triple, Spot, along, axis_number}
use Rattle.pic_block.specs.Cells.{IsWithin, count_of, index_of, place_of}
use Rattle.pic_block.proofs.CellLaws.{place_of_same, places_more}
use Rattle.pic_grid.specs.Lattice.{Field, value_at, with_value}
use Rattle.pic_grid.specs.Sums.{sum_over}
use Rattle.pic_grid.proofs.LatticeLaws.{value_at-same, value_at-other}
use Rattle.pic_grid.proofs.OverLaws.{sum_over_more}
use Rattle.pic_walk.specs.Limits.{MeetsLimits, any_limits}
use Rattle.pic_walk.specs.declared.row.Row.{Row}
use Rattle.pic_walk.specs.Rows.{IsRow, AreRows, no_row}
use Rattle.pic_deck.specs.Initial.{is_of, part, set_up}

pub AreRows-none : (n : Triple) → AreRows n []
AreRows-none n = record { few = omega arith; each = λ k h. absurd (omega (arith, h)) }

-- a row is of the place whose number is that of its own
is_of_same : (n : Triple) (a : Axis) (p : Triple) (r : Row) → IsWithin (triple r.cell) n → IsWithin p n
    → place_of n r.axis (triple r.cell) ≡ place_of n a p → is_of a p r ≡ true
is_of_same n a p r here there e =
    let both = place_of_same n r.axis (triple r.cell) a p here there e in
    let axis : eqb (axis_number r.axis) (axis_number a) ≡ true = eq-eqb _ _ (ap axis_number both.0) in
    let x : eqb (slice_index r.cell 0) p.x ≡ true = eq-eqb _ _ (ap (λ (t : Triple). t.x) both.1) in
    let y : eqb (slice_index r.cell 1) p.y ≡ true = eq-eqb _ _ (ap (λ (t : Triple). t.y) both.1) in
    let z : eqb (slice_index r.cell 2) p.z ≡ true = eq-eqb _ _ (ap (λ (t : Triple). t.z) both.1) in
    rw (axis, x, y, z)

-- and of no other
is_of_place : (n : Triple) (a : Axis) (p : Triple) (r : Row) → is_of a p r ≡ true → place_of n r.axis (triple r.cell) ≡ place_of n a p
unfolding place_of index_of
is_of_place n a p r h =
    let (axis, cell) = and_parts (eqb (axis_number r.axis) (axis_number a))
    (eqb (slice_index r.cell 0) p.x && (eqb (slice_index r.cell 1) p.y && eqb (slice_index r.cell 2) p.z)) h in
    let (x, rest) = and_parts (eqb (slice_index r.cell 0) p.x) (eqb (slice_index r.cell 1) p.y && eqb (slice_index r.cell 2) p.z) cell in
    let (y, z) = and_parts (eqb (slice_index r.cell 1) p.y) (eqb (slice_index r.cell 2) p.z) rest in
    rw (eqb-true _ _ axis, eqb-true _ _ x, eqb-true _ _ y, eqb-true _ _ z)

part_same : (a : Axis) (p : Triple) (r : Row) → is_of a p r ≡ true → part a p r ≡ r.value
unfolding part
part_same a p r h = rw h

part_other : (a : Axis) (p : Triple) (r : Row) → is_of a p r ≡ false → part a p r ≡ pos 0
unfolding part
part_other a p r h = rw h

-- a number of 64 bits is at most 2^63 in size
pub value_64 : (z : ℤ) → MeetsLimits any_limits z → unsigned_abs z ≤ 2 ^ 63
value_64 z inside = omega (arith, ints, inside.low, inside.high)

pub fits_64 : (z : ℤ) → MeetsLimits any_limits z → SFits w64 z
fits_64 (pos n) inside = record { sfits = omega (arith, ints, inside.high) }
fits_64 (negsuc n) inside = record { sfits = omega (arith, ints, inside.low) }

-- a row adds at most 2^63 in size
part_size : (n : Triple) (a : Axis) (p : Triple) (r : Row) → IsRow n r → unsigned_abs (part a p r) ≤ 2 ^ 63
part_size n a p r good =
    elim (cases_Bool (is_of a p r)) [
      | inl same ↦ rw (part_same a p r same) (value_64 r.value good.value)
      | inr other ↦ rw (part_other a p r other) (omega arith)
    ]

-- the first i rows add at most i times as much
pub parts_size : (n : Triple) (a : Axis) (p : Triple) (rows : List Row) → AreRows n rows → (i : ℕ) → i ≤ length rows
    → unsigned_abs (sum_over (part a p) (take i rows)) ≤ i * 2 ^ 63
unfolding sum_over
parts_size n a p rows are zero h = omega arith
parts_size n a p rows are (suc i) h =
    let below : i < length rows = omega (arith, h) in
    let next : suc i ≡ i + 1 = omega arith in
    let more = ap (λ k. sum_over (part a p) (take k rows)) next ∙ sum_over_more (part a p) rows i no_row below in
    let before = parts_size n a p rows are i (omega (arith, h)) in
    let here = part_size n a p (get_or rows i no_row) (are.each i below) in
    rw more (omega (arith, ints, before, here))

-- no value of a deck's field is above 2^84 in size
pub set_up_size : (n : Triple) (u : Spot) (rows : List Row) (a : Axis) (p : Triple) → AreRows n rows → unsigned_abs (along a u) ≤ 2 ^ 63
    → IsAtMost (set_up u rows a p) (2 ^ 84)
unfolding set_up
set_up_size n u rows a p are small =
    let all : take (length rows) rows ≡ rows = take_all (length rows) rows (omega arith) in
    let sum = rw all at (parts_size n a p rows are (length rows) (omega arith)) in
    record { size = omega (arith, ints, sum, small, are.few) }

-- one place more that is filled
pub filled_step : (Q : Axis → ℤ → Type 0) (g : Field) (i : ℕ) (a : Axis) (p : Triple) (v : ℤ) → place_of g.cells a p ≡ i → IsWithin p g.cells
    → length g.values ≡ 3 * count_of g.cells → Q a v
    → ((b : Axis) (q : Triple) → IsWithin q g.cells → place_of g.cells b q < i → Q b (value_at g b q))
    → (b : Axis) (q : Triple) → IsWithin q g.cells → place_of g.cells b q < i + 1 → Q b (value_at (with_value g a p v) b q)
filled_step Q g i a p v at w shape is below =
    places_more g.cells (λ b q. Q b (value_at (with_value g a p v) b q)) i a p at w
    (λ b q h less.
    let other : place_of g.cells b q ≢ place_of g.cells a p = (λ e. omega (arith, e, at, less)) in
    rw (value_at-other g a p v b q other) (below b q h less))
    (rw (value_at-same g a p v w shape) is)

-- one row more
pub row_step : (f g : Field) (rows : List Row) (i : ℕ) (v : ℤ) → i < length rows → g.cells ≡ f.cells → length g.values ≡ 3 * count_of g.cells
    → IsWithin (triple (get_or rows i no_row).cell) g.cells
    → v ≡ value_at g (get_or rows i no_row).axis (triple (get_or rows i no_row).cell) +ℤ (get_or rows i no_row).value
    → ((a : Axis) (p : Triple) → IsWithin p f.cells → value_at g a p ≡ value_at f a p +ℤ sum_over (part a p) (take i rows))
    → (a : Axis) (p : Triple) → IsWithin p f.cells
    → value_at (with_value g (get_or rows i no_row).axis (triple (get_or rows i no_row).cell) v) a p ≡ value_at f a p +ℤ sum_over (part a p) (take (i + 1) rows)
row_step f g rows i v below cells shape w is before a p h =
    let r : Row = get_or rows i no_row in
    let c : Triple = triple r.cell in
    let more = sum_over_more (part a p) rows i no_row below in
    let inside : IsWithin p g.cells = subst (λ (n : Triple). IsWithin p n) (sym cells) h in
    let here = before a p h in
    elim (cases_eq (place_of g.cells r.axis c) (place_of g.cells a p)) [
      | inl same ↦
          (let added = part_same a p r (is_of_same g.cells a p r w inside same) in
          let stored = value_at-same g r.axis c v w shape in
          let read : value_at (with_value g r.axis c v) a p ≡ v = ap (λ j. get_or (with_value g r.axis c v).values j (pos 0)) (sym same) ∙ stored in
          let old : value_at g r.axis c ≡ value_at g a p = ap (λ j. get_or g.values j (pos 0)) same in
          rw (read, more, added) (omega (arith, ints, is, old, here)))
      | inr other ↦
          (let apart : place_of g.cells a p ≢ place_of g.cells r.axis c = (λ e. other (sym e)) in
          let none = part_other a p r (not_of g a p r other) in
          rw (value_at-other g r.axis c v a p apart, more, none) (omega (arith, ints, here)))
    ]
  where
    not_of : (g : Field) (a : Axis) (p : Triple) (r : Row) → place_of g.cells r.axis (triple r.cell) ≢ place_of g.cells a p → is_of a p r ≡ false
    not_of g a p r other = elim (cases_Bool (is_of a p r)) [ inl same ↦ absurd (other (is_of_place g.cells a p r same)) | inr off ↦ off ]

-- while rows are added to small values, the values stay small
pub value_size : (f g : Field) (rows : List Row) (i : ℕ) (a : Axis) (p : Triple) → AreRows f.cells rows → i ≤ length rows → IsWithin p f.cells
    → ((b : Axis) (q : Triple) → IsWithin q f.cells → IsAtMost (value_at f b q) (2 ^ 63))
    → ((b : Axis) (q : Triple) → IsWithin q f.cells → value_at g b q ≡ value_at f b q +ℤ sum_over (part b q) (take i rows))
    → IsAtMost (value_at g a p) (2 ^ 84)
value_size f g rows i a p are h w small values =
    let sum = parts_size f.cells a p rows are i h in
    let before = small a p w in
    let is = values a p w in
    record { size = omega (arith, ints, sum, before.size, is, are.few, h) }

pub within_old : (m n : Triple) (p : Triple) → m ≡ n → IsWithin p m → IsWithin p n
within_old m n p e h = subst (λ (k : Triple). IsWithin p k) e h
