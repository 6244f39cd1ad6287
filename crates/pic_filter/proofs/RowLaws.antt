-- A row of the filtered lattice, from the sums along y and z of its cells and of one on either side.
use Rattle.std.proofs.Common.{◌≡◌, ℕ, ℤ, ◌+◌, ◌-◌, ◌*◌, ◌%◌, ◌<◌, ◌≤◌, List, sym, ◌∙◌, ap, arith}
use Rattle.std.proofs.Math.Nat.{mod-add-mod, mod-eq_of_lt, add-mod_right}
use Rattle.pic_num.specs.declared.axis.Axis.{Axis}
use Rattle.pic_num.specs.declared.axis.Axis.TheVariants.{Y, Z}
use Rattle.pic_num.specs.Space.{Triple}
use Rattle.pic_block.specs.Cells.{IsWithin, count_of, index_of, place_of}
use Rattle.pic_block.specs.Rows.{row_of}
use Rattle.pic_block.proofs.BlockRowLaws.{rows_of}
use Rattle.pic_block.proofs.RowLaws.{row_fits}
use Rattle.pic_grid.specs.Copying.{IsRunOf}
use Rattle.pic_grid.specs.Lattice.{Field, value_at}
use Rattle.pic_grid.proofs.LatticeLaws.{value_at-field_of}
use Rattle.pic_filter.specs.declared.kept.Kept.{Kept}
use Rattle.pic_filter.specs.Kept.{kept_at, row_cell}
use Rattle.pic_filter.specs.Runs.{number_at}
use Rattle.pic_filter.specs.Smoothing.{weighted, smoothed_along, smoothed, smoothed_each, smoothed_field}
use Rattle.pic_filter.proofs.AlongLaws.{turned_round}

-- the cell i further than the one before x, round the grid, and the two behind it
last_cell : (n x i : ℕ) → ((x + (n - 1)) % n + i) % n ≡ (x + i + (n - 1)) % n
last_cell n x i =
    let sum : x + (n - 1) + i ≡ x + i + (n - 1) = omega arith in
    mod-add-mod (x + (n - 1)) n i ∙ ap (λ (m : ℕ). m % n) sum

own_cell : (n x i : ℕ) → x + i < n → ((x + (n - 1)) % n + (i + 1)) % n ≡ x + i
own_cell n x i below =
    let sum : x + (n - 1) + (i + 1) ≡ x + i + n = omega (arith, below) in
    mod-add-mod (x + (n - 1)) n (i + 1) ∙ ap (λ (m : ℕ). m % n) sum ∙ add-mod_right (x + i) n ∙ mod-eq_of_lt below

next_cell : (n x i : ℕ) → x + i < n → ((x + (n - 1)) % n + (i + 2)) % n ≡ (x + i + 1) % n
next_cell n x i below =
    let sum : x + (n - 1) + (i + 2) ≡ x + i + 1 + n = omega (arith, below) in
    mod-add-mod (x + (n - 1)) n (i + 2) ∙ ap (λ (m : ℕ). m % n) sum ∙ add-mod_right (x + i + 1) n

module _ (n : Triple) (g : Triple → ℤ) (p : Triple) (kept : List Kept) (count : ℕ)
    (sums : (k : ℕ) → k < count + 2 → (kept_at kept k).three ≡ smoothed_along Y n (smoothed_along Z n g) (row_cell n p k))
  where
    -- three sums by their weights are a filtered number
    sums_are : (i : ℕ) → i < count → p.x + i < n.x
        → weighted (kept_at kept i).three (kept_at kept (i + 1)).three (kept_at kept (i + 2)).three ≡ smoothed n g (record p { x = p.x + i })
    unfolding smoothed_along
    sums_are i inside below =
        let at : ℕ → ℤ = λ k. smoothed_along Y n (smoothed_along Z n g) (record p { x = k }) in
        let last : (kept_at kept i).three ≡ at ((p.x + i + (n.x - 1)) % n.x) = sums i (omega (arith, inside)) ∙ ap at (last_cell n.x p.x i) in
        let own : (kept_at kept (i + 1)).three ≡ at (p.x + i) = sums (i + 1) (omega (arith, inside)) ∙ ap at (own_cell n.x p.x i below) in
        let next : (kept_at kept (i + 2)).three ≡ at ((p.x + i + 1) % n.x) =
        sums (i + 2) (omega (arith, inside)) ∙ ap at (next_cell n.x p.x i below) in
        (λ j. weighted (last j) (own j) (next j)) ∙ turned_round n g (record p { x = p.x + i })

-- so a row of them is one of the filtered lattice
pub row_smoothed : (f : Field) (a : Axis) (p : Triple) (count : ℕ) (kept : List Kept) (row : List ℤ) → IsWithin p f.cells → p.x + count ≤ f.cells.x
    → ((k : ℕ) → k < count + 2
    → (kept_at kept k).three ≡ smoothed_along Y f.cells (smoothed_along Z f.cells (value_at f a)) (row_cell f.cells p k))
    → ((i : ℕ) → i < count → number_at row i ≡ weighted (kept_at kept i).three (kept_at kept (i + 1)).three (kept_at kept (i + 2)).three)
    → IsRunOf (smoothed_field f) a p count row
row_smoothed f a p count kept row w fits sums made = record {
  values = λ i below.
      let inside : p.x + i < f.cells.x = omega (arith, fits, below) in
      made i below
      ∙ sums_are f.cells (value_at f a) p kept count sums i below inside
      ∙ sym (value_at-field_of f.side f.cells f.parts (smoothed_each f.cells (value_at f)) a (record p { x = p.x + i })
      (record { x = inside; y = w.y; z = w.z }));
}

-- the rows of a block follow each other, with no place between
row_number : (n : Triple) (a : Axis) (r : Triple) → place_of (rows_of n) a r * n.x ≡ row_of n a r.y r.z + r.x * n.x
unfolding place_of index_of
row_number n a r = omega arith

pub row_begins : (n : Triple) (a : Axis) (r : Triple) (i : ℕ) → IsWithin r (rows_of n) → place_of (rows_of n) a r ≡ i → i * n.x ≡ row_of n a r.y r.z
row_begins n a r i w at =
    let first = w.x in
    let none : r.x * n.x ≡ 0 * n.x = (let x : r.x ≡ 0 = omega (arith, first) in ap (λ (k : ℕ). k * n.x) x) in
    let row = row_number n a r in
    sym (ap (λ (k : ℕ). k * n.x) at) ∙ omega (arith, none, row)

-- and end among its places
pub row_ends : (n : Triple) (a : Axis) (r : Triple) (i : ℕ) → IsWithin r (rows_of n) → place_of (rows_of n) a r ≡ i → i * n.x + n.x ≤ 3 * count_of n
row_ends n a r i w at =
    let begin = row_begins n a r i w at in
    let end = row_fits n a r.y r.z w.y w.z in
    omega (arith, begin, end)
