-- Runs of a lattice, one after another in the order of places.
use Rattle.std.proofs.Common.{◌≡◌, ℕ, ℤ, pos, ◌+◌, ◌-◌, ◌*◌, ◌<◌, ◌≤◌, List, length, take, drop, slice_index_or, sym, ◌∙◌, ap, subst, arith}
use Rattle.std.proofs.lemmas.List.{length-take-le, length-drop, get_or-take, get_or-drop, ext_get_or}
use Rattle.std.proofs.lemmas.List.Elements.{All-from_get_or}
use Rattle.std.specs.Prelude.{All}
use Rattle.pic_num.specs.declared.axis.Axis.{Axis}
use Rattle.pic_num.specs.Space.{Triple}
use Rattle.pic_block.proofs.RowLaws.{place_of-along}
use Rattle.pic_block.specs.Cells.{IsWithin, count_of, place_of}
use Rattle.pic_block.proofs.CellLaws.{place_of_below}
use Rattle.pic_block.proofs.PlaceLaws.{IsPlace}
use Rattle.pic_grid.specs.Lattice.{Field, value_at}

-- the values of a run stand side by side in the order of places
pub record IsRun (f : Field) (a : Axis) (p : Triple) (run : List ℤ) : Type 0 where
  pub some : 0 < length run
  pub inside : p.x + length run ≤ f.cells.x
  pub values : (i : ℕ) → i < length run → slice_index_or run i (pos 0) ≡ value_at f a (record p { x = p.x + i })

module _ (f : Field) (a : Axis) (p : Triple) (done : ℕ) (run : List ℤ) (shape : length f.values ≡ 3 * count_of f.cells) (at : place_of f.cells a p ≡ done)
    (within : IsWithin p f.cells) (is : IsRun f a p run)
  where
    -- a cell of a run is one of the cells
    pub run_within : (i : ℕ) → i < length run → IsWithin (record p { x = p.x + i }) f.cells
    run_within i below = record { x = omega (arith, is.inside, below); y = within.y; z = within.z }

    pub run_fits : done + length run ≤ length f.values
    run_fits =
        let i : ℕ = length run - 1 in
        let below : i < length run = omega (arith, is.some) in
        let last = place_of_below f.cells a (record p { x = p.x + i }) (run_within i below) in
        omega (arith, shape, at, last, place_of-along f.cells a p i, is.some)

    -- a run is a part of the list of values
    pub run_is : run ≡ take (length run) (drop done f.values)
    run_is =
        let fits = run_fits in
        let rest = length-drop done f.values in
        ext_get_or (pos 0) run (take (length run) (drop done f.values)) (sym (length-take-le (length run) (drop done f.values) (omega (arith, fits, rest))))
        (λ i below.
        is.values i below
        ∙ ap (λ j. slice_index_or f.values j (pos 0)) (place_of-along f.cells a p i ∙ ap (λ k. k + i) at)
        ∙ sym (get_or-take (length run) (drop done f.values) i (pos 0) below ∙ get_or-drop done f.values i (pos 0)))

    -- what holds of each value of a lattice holds of a run's
    pub run_all : (P : ℤ → Type 0) → ((b : Axis) (q : Triple) → IsWithin q f.cells → P (value_at f b q)) → All P run
    run_all P each = All-from_get_or P run (pos 0) (λ i below. subst P (sym (is.values i below)) (each a (record p { x = p.x + i }) (run_within i below)))

    -- the place behind a run
    pub run_behind : (n : Triple) (b : Axis) (q : Triple) → n ≡ f.cells → IsWithin q n
        → (place_of n a p + length run < 3 * count_of n → place_of n b q ≡ place_of n a p + length run)
        → IsPlace f.cells (done + length run) b q
    run_behind n b q same inner next =
        let here : place_of n a p + length run ≡ done + length run = ap (λ m. place_of m a p + length run) same ∙ ap (λ k. k + length run) at in
        let place : IsPlace n (done + length run) b q = record {
          within = λ h. inner;
          number = λ h. next (subst (λ k. k < 3 * count_of n) (sym here) h) ∙ here;
        } in
        subst (λ m. IsPlace m (done + length run) b q) same place
