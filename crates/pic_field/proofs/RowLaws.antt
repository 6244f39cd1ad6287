-- Rows filled value by value, and run by run round the grid.
use Rattle.std.proofs.Common.{◌≡◌, ◌≢◌, ℕ, ℤ, pos, ◌+◌, ◌-◌, ◌*◌, ◌/◌, ◌%◌, ◌<◌, ◌≤◌, ◌⊎◌, List}
use Rattle.std.proofs.Common.{◌^◌, ◌++◌, length, take, slice_set, slice_index_or, to_z, of_z, inl, inr, sym, ◌∙◌, ap, subst, arith}
use Rattle.std.proofs.lemmas.Bool.{cases_lt}
use Rattle.std.proofs.lemmas.List.{get_or-set_same, get_or-set_other, get_or-take, get_or_append_left, get_or-append_right, length-take-le}
use Rattle.std.proofs.lemmas.Nat.{div-add-mod', mod-mul-add}
use Rattle.std.proofs.Math.Nat.{mul-add-mod_self_right}
use borrow.Author.Count.{below_more}
use mir.Syntax.{w128}
use Rattle.pic_num.specs.declared.axis.Axis.{Axis}
use Rattle.pic_num.specs.Multiplier.{Multiplier}
use Rattle.pic_num.specs.Rounding.{scaled}
use Rattle.pic_num.specs.Sizes.{IsAtMost}
use Rattle.pic_num.specs.Space.{Triple}
use Rattle.pic_num.proofs.SizeLaws.{codes, code_is, at_most_more}
use Rattle.pic_block.specs.Cells.{IsWithin}
use Rattle.pic_grid.specs.Lattice.{Field, value_at, EachAtMost}
use Rattle.pic_field.specs.declared.plane.Span.{Span}
use Rattle.pic_field.specs.Rows.{most_row, scaled_of, row_at, along_x, IsSmallRow, IsValueRow, IsScaledRow}
use Rattle.pic_field.specs.Planes.{IsSpan}

-- no value of a row is scaled at first
pub row_none : (n : Triple) (g : Axis → Triple → ℤ) (a : Axis) (p : Triple) (first : ℕ) (row : List ℤ) → IsScaledRow n g a p first first row
row_none n g a p first row = record {
  values = λ i past below. absurd (omega (arith, past, below));
  small = λ i past below. absurd (omega (arith, past, below));
}

-- a fact of every value below i holds below i + 1 once it holds of the value written there
pub row_more : (P : ℕ → ℤ → Type 0) (row : List ℤ) (i : ℕ) (v : ℤ) → i < length row → ((k : ℕ) → k < i → P k (row_at row k)) → P i v
    → (k : ℕ) → k < i + 1 → P k (row_at (slice_set row i v) k)
row_more P row i v inside below here =
    below_more (λ k. P k (row_at (slice_set row i v) k)) i
    (λ k h. let other : k ≢ i = omega arith in subst (P k) (sym (get_or-set_other row i k v (pos 0) other)) (below k h))
    (subst (P i) (sym (get_or-set_same row i v (pos 0) inside)) here)

pub small_more : (most : ℕ) (row : List ℤ) (i : ℕ) (v : ℤ) → i < length row → IsSmallRow most i row → IsAtMost v most
    → IsSmallRow most (i + 1) (slice_set row i v)
small_more most row i v inside small here = record { at_most = row_more (λ k z. IsAtMost z most) row i v inside small.at_most here }

-- sizes that bound a row still do when they are more
pub wider : (m n count : ℕ) (row : List ℤ) → m ≤ n → IsSmallRow (m + 1) count row → IsSmallRow (n + 1) count row
wider m n count row more small = record { at_most = λ k below. at_most_more _ (m + 1) (n + 1) (omega (arith, more)) (small.at_most k below) }

-- the values from i + 1 on stay as they were
pub row_rest : (first row : List ℤ) (i : ℕ) (v : ℤ) → ((k : ℕ) → i ≤ k → row_at row k ≡ row_at first k)
    → (k : ℕ) → i + 1 ≤ k → row_at (slice_set row i v) k ≡ row_at first k
row_rest first row i v rest k above =
    let other : k ≢ i = omega arith in
    get_or-set_other row i k v (pos 0) other ∙ rest k (omega arith)

-- the layer j further than one that lies d round from s, where it doesn't pass the last
pub round_next : (n s d x j : ℕ) → x ≡ (s + d) % n → x + j < n → (s + (d + j)) % n ≡ x + j
round_next n s d x j at below =
    let whole : (s + d) / n * n + (s + d) % n ≡ s + d = div-add-mod' (s + d) n in
    let sum : s + (d + j) ≡ (s + d) / n * n + (x + j) = omega arith in
    ap (λ (m : ℕ). m % n) sum ∙ mod-mul-add ((s + d) / n) n (x + j) below

pub round_on : (n s d x j : ℕ) → x ≡ (s + d) % n → (x + j) % n ≡ (s + (d + j)) % n
round_on n s d x j at =
    let whole : (s + d) / n * n + (s + d) % n ≡ s + d = div-add-mod' (s + d) n in
    let sum : s + (d + j) ≡ (s + d) / n * n + (x + j) = omega arith in
    sym (ap (λ (m : ℕ). m % n) sum ∙ mul-add-mod_self_right ((s + d) / n) n (x + j))

module _ (f : Field) (by : Multiplier) (a : Axis) (p : Triple) (done more x : ℕ) (at : x ≡ (p.x + done) % f.cells.x) (within : IsWithin p f.cells)
    (fits : x + more ≤ f.cells.x) (run : List ℤ) (values : (i : ℕ) → i < more → row_at run i ≡ value_at f a (record p { x = x + i }))
  where
    -- a run's values are small,
    pub run_small : (most : ℕ) → EachAtMost most f → IsSmallRow most more run
    run_small most each = record {
      at_most = λ i below.
          let inside : x + i < f.cells.x = omega (arith, fits) in
          subst (λ (z : ℤ). IsAtMost z most) (sym (values i below)) (each.at_most a (record p { x = x + i })
          (record { x = inside; y = within.y; z = within.z }));
    }

    -- and scaled they are the next of the row
    pub more_scaled : (first : ℕ) (row part rest : List ℤ) → done ≤ length row → length part ≡ more → IsScaledRow f.cells (scaled_of f by) a p first done row
        → ((i : ℕ) → i < more → row_at part i ≡ scaled (row_at run i) by) → IsSmallRow most_row more part
        → IsScaledRow f.cells (scaled_of f by) a p first (done + more) (take done row ++ (part ++ rest))
    more_scaled first row part rest room long before scaled_part small = record {
      values = λ k past below. elim (cases_lt k done) as (λ _. row_at all k ≡ scaled (value_at f a (along_x f.cells p k)) by) [
        | inl less ↦ left k less ∙ before.values k past less
        | inr least ↦
            (let j : k - done < more = omega arith in
            let next : (p.x + (done + (k - done))) % f.cells.x ≡ x + (k - done) = round_next f.cells.x p.x done x (k - done) at (omega (arith, fits)) in
            let same : p.x + k ≡ p.x + (done + (k - done)) = omega arith in
            right k least j
            ∙ scaled_part (k - done) j
            ∙ ap (λ (z : ℤ). scaled z by) (values (k - done) j)
            ∙ sym (ap (λ (m : ℕ). scaled (value_at f a (record p { x = m })) by) (ap (λ (m : ℕ). m % f.cells.x) same ∙ next)))
      ];
      small = λ k past below. elim (cases_lt k done) as (λ _. IsAtMost (row_at all k) most_row) [
        | inl less ↦ subst (λ (z : ℤ). IsAtMost z most_row) (sym (left k less)) (before.small k past less)
        | inr least ↦
            (let j : k - done < more = omega arith in
            subst (λ (z : ℤ). IsAtMost z most_row) (sym (right k least j)) (small.at_most (k - done) j))
      ];
    }
      where
        all : List ℤ
        all = take done row ++ (part ++ rest)

        front : length (take done row) ≡ done
        front = length-take-le done row room

        left : (k : ℕ) → k < done → row_at all k ≡ row_at row k
        left k less = get_or_append_left (take done row) (part ++ rest) (pos 0) k (omega (arith, front)) ∙ get_or-take done row k (pos 0) less

        right : (k : ℕ) → done ≤ k → k - done < more → row_at all k ≡ row_at part (k - done)
        right k least j =
            get_or-append_right (take done row) (part ++ rest) done k (pos 0) front least
            ∙ get_or_append_left part rest (pos 0) (k - done) (omega (arith, long))

-- some values of a row
pub row_part : (n : Triple) (g : Axis → Triple → ℤ) (a : Axis) (p : Triple) (count first past : ℕ) (row : List ℤ) → past ≤ count + 1
    → IsScaledRow n g a p 0 (count + 1) row → IsScaledRow n g a p first past row
row_part n g a p count first past row fits is = record {
  values = λ i from below. is.values i (omega arith) (omega (arith, below, fits));
  small = λ i from below. is.small i (omega arith) (omega (arith, below, fits));
}

-- so many of its values are a row that a curl is made of
pub value_row : (n : Triple) (g : Axis → Triple → ℤ) (a : Axis) (p : Triple) (first past at count size : ℕ) (row part : List ℤ)
    → IsScaledRow n g a p first past row → first ≤ at → at + count ≤ past → count ≡ size → length part ≡ count
    → ((i : ℕ) → i < count → row_at part i ≡ row_at row (at + i)) → IsValueRow most_row size part
value_row n g a p first past at count size row part is from to same long values = record {
  length_is = long ∙ same;
  small = record {
    at_most = λ i below.
        let inside : i < count = omega (arith, below, same) in
        subst (λ (z : ℤ). IsAtMost z most_row) (sym (values i inside)) (is.small (at + i) (omega (arith, from)) (omega (arith, inside, to)));
  };
}

-- a number is another one or it isn't
same_or_other : (i e : ℕ) → (i ≡ e) ⊎ (i ≢ e)
same_or_other i e = elim (cases_lt i e) [
  | inl less ↦ inr (omega (arith, less))
  | inr least ↦ elim (cases_lt e i) [
    | inl more ↦ inr (omega (arith, more))
    | inr most ↦ inl (omega (arith, least, most))
  ]
]

-- the values of a row's cells and that at its edge
pub with_edge : (n : Triple) (g : Axis → Triple → ℤ) (a : Axis) (p : Triple) (s : Span) (row : List ℤ) (v : ℤ) → IsSpan s → s.edge < length row
    → IsScaledRow n g a p s.first (s.first + s.cells) row → v ≡ g a (along_x n p s.edge) → IsAtMost v most_row
    → IsScaledRow n g a p 0 (s.cells + 1) (slice_set row s.edge v)
with_edge n g a p s row v span inside is at small = record {
  values = λ i from below. elim (same_or_other i s.edge) as (λ _. row_at (slice_set row s.edge v) i ≡ g a (along_x n p i)) [
    | inl same ↦
        ap (row_at (slice_set row s.edge v)) same
        ∙ get_or-set_same row s.edge v (pos 0) inside
        ∙ at
        ∙ sym (ap (λ (m : ℕ). g a (along_x n p m)) same)
    | inr other ↦
        (let among = span.covers i below other in
        get_or-set_other row s.edge i v (pos 0) other ∙ is.values i among.0 among.1)
  ];
  small = λ i from below. elim (same_or_other i s.edge) as (λ _. IsAtMost (row_at (slice_set row s.edge v) i) most_row) [
    | inl same ↦
        subst (λ (z : ℤ). IsAtMost z most_row) (sym (ap (row_at (slice_set row s.edge v)) same ∙ get_or-set_same row s.edge v (pos 0) inside)) small
    | inr other ↦
        (let among = span.covers i below other in
        subst (λ (z : ℤ). IsAtMost z most_row) (sym (get_or-set_other row s.edge i v (pos 0) other)) (is.small i among.0 among.1))
  ];
}

-- a small value of a row is held as it is
pub held : (row : List ℤ) (i : ℕ) → i < length row → IsSmallRow (2 ^ 90) (length row) row → to_z w128 (of_z w128 (row_at row i)) ≡ row_at row i
held row i inside small =
    let h : IsAtMost (slice_index_or row i (pos 0)) (2 ^ 90) = small.at_most i inside in
    code_is (search codes depth 6) tt
