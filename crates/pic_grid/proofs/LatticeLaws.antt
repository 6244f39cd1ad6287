-- Reads of a lattice after a write, and of a lattice given by its values.
use Rattle.std.proofs.Common.{◌≡◌, ◌≢◌, ℕ, ℤ, pos, ◌*◌, ◌/◌, ◌%◌, ◌<◌, List, length, slice_index_or, sym, ◌∙◌, subst, arith}
use Rattle.std.proofs.lemmas.List.{get_or-set_same, get_or-set_other, ext_get_or}
use Rattle.std.proofs.lemmas.List.FromFn.{get_or-map-range_with_len, length-map-range_with_len}
use Rattle.pic_num.specs.declared.axis.Axis.{Axis}
use Rattle.pic_num.specs.Space.{Triple}
use Rattle.pic_block.specs.Cells.{IsWithin, count_of, cell_of, axis_of, place_of}
use Rattle.pic_block.proofs.CellLaws.{place_of_below, place_of-number, place_within, axis_of-place_of, cell_of-place_of}
use Rattle.pic_grid.specs.Lattice.{Field, value_at, with_value, values_of, field_of}

-- a value written is read back
pub value_at-same : (f : Field) (a : Axis) (p : Triple) (v : ℤ) → IsWithin p f.cells → length f.values ≡ 3 * count_of f.cells
    → value_at (with_value f a p v) a p ≡ v
value_at-same f a p v h size =
    let below : place_of f.cells a p < 3 * count_of f.cells = place_of_below f.cells a p h in
    get_or-set_same f.values (place_of f.cells a p) v (pos 0) (omega arith)

-- every other value stays
pub value_at-other : (f : Field) (a : Axis) (p : Triple) (v : ℤ) (b : Axis) (q : Triple) → place_of f.cells b q ≢ place_of f.cells a p
    → value_at (with_value f a p v) b q ≡ value_at f b q
value_at-other f a p v b q other = get_or-set_other f.values (place_of f.cells a p) (place_of f.cells b q) v (pos 0) other

-- a lattice given by its values has them
pub value_at-field_of : (side : ℕ) (n parts : Triple) (g : Axis → Triple → ℤ) (a : Axis) (p : Triple) → IsWithin p n
    → value_at (field_of side n parts g) a p ≡ g a p
unfolding values_of
value_at-field_of side n parts g a p h =
    let read = get_or-map-range_with_len (λ i. g (axis_of (i / count_of n)) (cell_of n (i % count_of n))) 0 (3 * count_of n) (place_of n a p) (place_of n a p)
    (pos 0) (place_of_below n a p h) (omega arith) in
    read ∙ (λ i. g (axis_of-place_of n a p h i) (cell_of-place_of n a p h i))

pub length-values_of : (n : Triple) (g : Axis → Triple → ℤ) → length (values_of n g) ≡ 3 * count_of n
unfolding values_of
length-values_of n g = length-map-range_with_len (λ i. g (axis_of (i / count_of n)) (cell_of n (i % count_of n))) 0 (3 * count_of n)

-- two lists of values that agree at every place are one
pub same_values : (n : Triple) (xs ys : List ℤ) → length xs ≡ 3 * count_of n → length ys ≡ 3 * count_of n
    → ((a : Axis) (p : Triple) → IsWithin p n → slice_index_or xs (place_of n a p) (pos 0) ≡ slice_index_or ys (place_of n a p) (pos 0))
    → xs ≡ ys
same_values n xs ys hx hy agree =
    ext_get_or (pos 0) xs ys (omega arith) (λ i below.
    let inside : i < 3 * count_of n = omega arith in
    let number = place_of-number n i inside in
    let here = agree (axis_of (i / count_of n)) (cell_of n (i % count_of n)) (place_within n i inside) in
    subst (λ (j : ℕ). slice_index_or xs j (pos 0) ≡ slice_index_or ys j (pos 0)) number here)

-- a lattice is given by its values
pub is_field_of : (side : ℕ) (n parts : Triple) (g : Axis → Triple → ℤ) (f : Field) → f.cells ≡ n → f.side ≡ side → f.parts ≡ parts
    → length f.values ≡ 3 * count_of n
    → ((a : Axis) (p : Triple) → IsWithin p n → value_at f a p ≡ g a p) → f ≡ field_of side n parts g
is_field_of side n parts g f cells same_side same_parts size values =
    let same : f.values ≡ values_of n g = same_values n f.values (values_of n g) size (length-values_of n g)
    (λ a p h. subst (λ (m : Triple). slice_index_or f.values (place_of m a p) (pos 0) ≡ g a p) cells (values a p h)
    ∙ sym (value_at-field_of side n parts g a p h)) in
    λ i. record { cells = cells i; side = same_side i; parts = same_parts i; values = same i }
