-- Rows of numbers added to those of a list, and how many rows a block has.
use Rattle.std.proofs.Common.{◌≡◌, ◌≢◌, ℕ, zero, suc, ◌+◌, ◌-◌, ◌*◌, ◌/◌, ◌%◌, ◌<◌, ◌≤◌, ◌⊎◌, inl, inr, List, get_or, refl, sym, ap, ◌∙◌, subst, arith}
use Rattle.std.proofs.Math.IntN.{ℤ, pos, ◌+ℤ◌}
use Rattle.std.proofs.Math.Nat.{mul-le-mul_right, mod-lt}
use Rattle.std.proofs.lemmas.Bool.{cases_lt}
use Rattle.std.proofs.lemmas.Nat.{div-add-mod', div_below, same_from_place}
use Rattle.pic_num.specs.Sizes.{IsAtMost}
use Rattle.pic_num.specs.Space.{Triple}
use Rattle.pic_block.specs.Cells.{count_of}

-- of the numbers from at on the first x have those from start on added
pub record RowAdded (from old : List ℤ) (at start x : ℕ) (now : List ℤ) : Type 0 where
  pub done : (k : ℕ) → k < x → get_or now (at + k) (pos 0) ≡ get_or old (at + k) (pos 0) +ℤ get_or from (start + k) (pos 0)
  pub rest : (k : ℕ) → (k < at) ⊎ (at + x ≤ k) → get_or now k (pos 0) ≡ get_or old k (pos 0)

pub row_none : (from old : List ℤ) (at start : ℕ) → RowAdded from old at start 0 old
row_none from old at start = record { done = λ k below. absurd (omega (arith, below)); rest = λ k off. refl }

-- one number more, at its places as the code has them
pub row_more : (from old : List ℤ) (at start x : ℕ) (now next : List ℤ) (here there : ℕ) → here ≡ at + x → there ≡ start + x → RowAdded from old at start x now
    → get_or next here (pos 0) ≡ get_or now here (pos 0) +ℤ get_or from there (pos 0)
    → ((k : ℕ) → k ≢ here → get_or next k (pos 0) ≡ get_or now k (pos 0)) → RowAdded from old at start (x + 1) next
row_more from old at start x now next here there here_is there_is added sum others = record {
  done = λ k below. elim (cases_lt k x) [
    | inl less ↦ (let other : at + k ≢ here = λ e. absurd (omega (arith, less, e, here_is)) in others (at + k) other ∙ added.done k less)
    | inr more ↦ (let same : x ≡ k = omega (arith, below, more) in
        let was : get_or now here (pos 0) ≡ get_or old here (pos 0) = added.rest here (inr (omega (arith, here_is))) in
        let place : here ≡ at + k = omega (arith, here_is, same) in
        let read : there ≡ start + k = omega (arith, there_is, same) in
        subst (λ (j : ℕ). get_or next j (pos 0) ≡ get_or old j (pos 0) +ℤ get_or from (start + k) (pos 0)) place
        (sum ∙ (λ t. was t +ℤ get_or from (read t) (pos 0))))
  ];
  rest = λ k off. (let other : k ≢ here = λ e. off_other k off (e ∙ here_is) in others k other ∙ added.rest k (off_more k off));
}
  where
    off_other : (k : ℕ) → (k < at) ⊎ (at + (x + 1) ≤ k) → k ≡ at + x → ⊥
    off_other k (inl h) e = absurd (omega (arith, h, e))
    off_other k (inr h) e = absurd (omega (arith, h, e))

    off_more : (k : ℕ) → (k < at) ⊎ (at + (x + 1) ≤ k) → (k < at) ⊎ (at + x ≤ k)
    off_more k (inl h) = inl h
    off_more k (inr h) = inr (omega (arith, h))

-- the number that is added to is as it was
pub row_next : (from old : List ℤ) (at start x : ℕ) (now : List ℤ) → RowAdded from old at start x now
    → get_or now (at + x) (pos 0) ≡ get_or old (at + x) (pos 0)
row_next from old at start x now added = added.rest (at + x) (inr (omega arith))

-- of the numbers from at on the first y rows, step apart, have those from start on added, whose rows are less apart
pub record LayerAdded (from old : List ℤ) (at step start less count y : ℕ) (now : List ℤ) : Type 0 where
  pub done : (x j : ℕ) → x < count → j < y
      → get_or now (at + j * step + x) (pos 0) ≡ get_or old (at + j * step + x) (pos 0) +ℤ get_or from (start + j * less + x) (pos 0)
  pub rest : (k : ℕ) → ((x j : ℕ) → x < count → j < y → k ≢ at + j * step + x) → get_or now k (pos 0) ≡ get_or old k (pos 0)

-- a row ends before the next ones
row_before : (at step count x j y : ℕ) → count ≤ step → x < count → j < y → at + j * step + x < at + y * step
row_before at step count x j y apart h below =
    let rows : (j + 1) * step ≤ y * step = mul-le-mul_right step (omega (arith, below)) in omega (arith, rows, apart, h)

-- the numbers of the next row are as they were
pub layer_next : (from old : List ℤ) (at step start less count y : ℕ) (now : List ℤ) (x : ℕ) → count ≤ step → LayerAdded from old at step start less count y now
    → get_or now (at + y * step + x) (pos 0) ≡ get_or old (at + y * step + x) (pos 0)
layer_next from old at step start less count y now x apart added = added.rest (at + y * step + x) (λ w j h below e.
    let before = row_before at step count w j y apart h below in absurd (omega (arith, before, e)))

module _ (from old : List ℤ) (at step start less count y : ℕ) (now next : List ℤ) (apart : count ≤ step)
    (added : LayerAdded from old at step start less count y now)
    (inside : (x : ℕ) → x < count
    → get_or next (at + y * step + x) (pos 0) ≡ get_or now (at + y * step + x) (pos 0) +ℤ get_or from (start + y * less + x) (pos 0))
    (outside : (k : ℕ) → (k < at + y * step) ⊎ (at + y * step + count ≤ k) → get_or next k (pos 0) ≡ get_or now k (pos 0))
  where
    abbrev Sum : ℕ → ℕ → Type 0
    Sum x j = get_or next (at + j * step + x) (pos 0) ≡ get_or old (at + j * step + x) (pos 0) +ℤ get_or from (start + j * less + x) (pos 0)

    off_row : (k : ℕ) → ((x j : ℕ) → x < count → j < y + 1 → k ≢ at + j * step + x) → (k < at + y * step) ⊎ (at + y * step + count ≤ k)
    off_row k off = elim (cases_lt k (at + y * step)) [
      | inl low ↦ inl low
      | inr more ↦ elim (cases_lt k (at + y * step + count)) [
        | inl below ↦
            (let e : k ≡ at + y * step + (k - (at + y * step)) = omega (arith, more) in
            absurd (off (k - (at + y * step)) y (omega (arith, more, below)) (omega arith) e))
        | inr high ↦ inr high
      ]
    ]

    pub layer_more : LayerAdded from old at step start less count (y + 1) next
    layer_more = record {
      done = λ x j h below. elim (cases_lt j y) [
        | inl less ↦ outside (at + j * step + x) (inl (row_before at step count x j y apart h less)) ∙ added.done x j h less
        | inr more ↦ (let same : y ≡ j = omega (arith, below, more) in
            subst (Sum x) same (inside x h
            ∙ ap (λ (v : ℤ). v +ℤ get_or from (start + y * less + x) (pos 0)) (layer_next from old at step start less count y now x apart added)))
      ];
      rest = λ k off. outside k (off_row k off) ∙ added.rest k (λ x j h below. off x j h (omega (arith, below)));
    }

-- and with the places of that row as the code has them
pub layer_moved : (from old : List ℤ) (at step start less count y : ℕ) (now next : List ℤ) (here there : ℕ) → here ≡ at + y * step → there ≡ start + y * less
    → count ≤ step → LayerAdded from old at step start less count y now
    → ((x : ℕ) → x < count → get_or next (here + x) (pos 0) ≡ get_or now (here + x) (pos 0) +ℤ get_or from (there + x) (pos 0))
    → ((k : ℕ) → (k < here) ⊎ (here + count ≤ k) → get_or next k (pos 0) ≡ get_or now k (pos 0)) → LayerAdded from old at step start less count (y + 1) next
layer_moved from old at step start less count y now next here there here_is there_is apart added inside outside =
    layer_more from old at step start less count y now next apart added
    (λ x h. subst (λ (a : ℕ). get_or next (a + x) (pos 0) ≡ get_or now (a + x) (pos 0) +ℤ get_or from (start + y * less + x) (pos 0)) here_is
    (subst (λ (b : ℕ). get_or next (here + x) (pos 0) ≡ get_or now (here + x) (pos 0) +ℤ get_or from (b + x) (pos 0)) there_is (inside x h)))
    (subst (λ (a : ℕ). (k : ℕ) → (k < a) ⊎ (a + count ≤ k) → get_or next k (pos 0) ≡ get_or now k (pos 0)) here_is outside)

-- none are at first
pub layer_none : (from old : List ℤ) (at step start less count : ℕ) → LayerAdded from old at step start less count 0 old
layer_none from old at step start less count = record { done = λ x j h below. absurd (omega (arith, below)); rest = λ k off. refl }

-- the numbers of the next row are as small
pub layer_small : (from old : List ℤ) (at step start less count y : ℕ) (now : List ℤ) (here most : ℕ) → here ≡ at + y * step → count ≤ step
    → LayerAdded from old at step start less count y now → ((x : ℕ) → x < count → IsAtMost (get_or old (at + y * step + x) (pos 0)) most)
    → (x : ℕ) → x < count → IsAtMost (get_or now (here + x) (pos 0)) most
layer_small from old at step start less count y now here most here_is apart added small x h =
    subst (λ (k : ℕ). IsAtMost (get_or now (k + x) (pos 0)) most) (sym here_is)
    (subst (λ (v : ℤ). IsAtMost v most) (sym (layer_next from old at step start less count y now x apart added)) (small x h))

-- the rows on x, y and z are added one after the other
pub first_row : (from old : List ℤ) (at apart start less count : ℕ) (first : List ℤ) → count ≤ apart → RowAdded from old at start count first
    → LayerAdded from old at apart start less count 1 first
first_row from old at apart start less count first within one =
    layer_moved from old at apart start less count 0 old first at start (omega arith) (omega arith) within
    (layer_none from old at apart start less count) one.done one.rest

pub three_rows : (from old : List ℤ) (at apart start less count : ℕ) (first second third : List ℤ) → count ≤ apart → RowAdded from old at start count first
    → RowAdded from first (at + apart) (start + less) count second → RowAdded from second (at + 2 * apart) (start + 2 * less) count third
    → LayerAdded from old at apart start less count 3 third
three_rows from old at apart start less count first second third within one two three =
    let on_y = layer_moved from old at apart start less count 1 first second (at + apart) (start + less) (omega arith) (omega arith) within
    (first_row from old at apart start less count first within one) two.done two.rest in
    layer_moved from old at apart start less count 2 second third (at + 2 * apart) (start + 2 * less) (omega arith) (omega arith) within on_y
    three.done three.rest

-- of the numbers on each axis, apart from axis to axis, the first y rows have those from start on added
pub record RowsAdded (from old : List ℤ) (at apart step start less count y : ℕ) (now : List ℤ) : Type 0 where
  pub done : (x i j : ℕ) → x < count → i < 3 → j < y
      → get_or now (at + i * apart + j * step + x) (pos 0)
      ≡ get_or old (at + i * apart + j * step + x) (pos 0) +ℤ get_or from (start + i * less + j * count + x) (pos 0)
  pub rest : (k : ℕ) → ((x i j : ℕ) → x < count → i < 3 → j < y → k ≢ at + i * apart + j * step + x) → get_or now k (pos 0) ≡ get_or old k (pos 0)

-- a row of a layer whose rows end before those on the next axis ends before them too
pub row_within : (y rows step apart : ℕ) → y < rows → rows * step ≤ apart → (y + 1) * step ≤ apart
row_within y rows step apart h fits = let all : (y + 1) * step ≤ rows * step = mul-le-mul_right step (omega (arith, h)) in omega (arith, all, fits)

-- a row is none of the next ones, on any axis
rows_differ : (at apart step count x i j w k y : ℕ) → count ≤ step → (y + 1) * step ≤ apart → x < count → w < count → j < y
    → at + i * apart + j * step + x ≡ at + k * apart + y * step + w → ⊥
rows_differ at apart step count x i j w k y within fits h g below e =
    let before = row_before 0 step count x j y within h below in
    let both = same_from_place i (j * step + x) k (y * step + w) apart (omega (arith, before, fits)) (omega (arith, fits, within, g)) (omega (arith, e)) in
    let same = both.1 in
    absurd (omega (arith, same, before))

module _ (from old : List ℤ) (at apart step start less count y : ℕ) (now : List ℤ) (here there : ℕ) (here_is : here ≡ at + y * step)
    (there_is : there ≡ start + y * count) (within : count ≤ step) (fits : (y + 1) * step ≤ apart)
    (added : RowsAdded from old at apart step start less count y now)
  where
    place : (x i : ℕ) → here + i * apart + x ≡ at + i * apart + y * step + x
    place x i = omega (arith, here_is)

    read : (x i : ℕ) → there + i * less + x ≡ start + i * less + y * count + x
    read x i = omega (arith, there_is)

    rows_next : (x i : ℕ) → x < count → i < 3 → get_or now (here + i * apart + x) (pos 0) ≡ get_or old (at + i * apart + y * step + x) (pos 0)
    rows_next x i h axis =
        ap (λ (k : ℕ). get_or now k (pos 0)) (place x i)
        ∙ added.rest (at + i * apart + y * step + x) (λ w k j g other below e.
        rows_differ at apart step count w k j x i y within fits g h below (sym e))

    pub rows_small : (most : ℕ) → ((x i j : ℕ) → x < count → i < 3 → j < y + 1 → IsAtMost (get_or old (at + i * apart + j * step + x) (pos 0)) most)
        → (x i : ℕ) → x < count → i < 3 → IsAtMost (get_or now (here + i * apart + x) (pos 0)) most
    rows_small most small x i h axis = subst (λ (v : ℤ). IsAtMost v most) (sym (rows_next x i h axis)) (small x i y h axis (omega arith))

    module _ (next : List ℤ) (inside : (x i : ℕ) → x < count → i < 3 → get_or next (here + i * apart + x) (pos 0)
        ≡ get_or now (here + i * apart + x) (pos 0) +ℤ get_or from (there + i * less + x) (pos 0))
        (outside : (k : ℕ) → ((x i : ℕ) → x < count → i < 3 → k ≢ here + i * apart + x) → get_or next k (pos 0) ≡ get_or now k (pos 0))
      where
        abbrev Total : ℕ → ℕ → ℕ → Type 0
        Total x i j = get_or next (at + i * apart + j * step + x) (pos 0)
            ≡ get_or old (at + i * apart + j * step + x) (pos 0) +ℤ get_or from (start + i * less + j * count + x) (pos 0)

        pub rows_more : RowsAdded from old at apart step start less count (y + 1) next
        rows_more = record {
          done = λ x i j h axis below. elim (cases_lt j y) [
            | inl less_y ↦
                outside (at + i * apart + j * step + x) (λ w k g other e.
                rows_differ at apart step count x i j w k y within fits h g less_y (e ∙ place w k)) ∙ added.done x i j h axis less_y
            | inr more ↦ (let same : y ≡ j = omega (arith, below, more) in
                subst (Total x i) same (ap (λ (k : ℕ). get_or next k (pos 0)) (sym (place x i)) ∙ inside x i h axis
                ∙ (λ t. rows_next x i h axis t +ℤ get_or from (read x i t) (pos 0))))
          ];
          rest = λ k off. outside k (λ x i h axis e. off x i y h axis (omega arith) (e ∙ place x i))
              ∙ added.rest k (λ x i j h axis below. off x i j h axis (omega (arith, below)));
        }

-- what holds of each place of rows that adjoin holds of each of one row
pub flat_row : (P : ℕ → Type 0) (at step count rows : ℕ) → count ≡ step → ((x y : ℕ) → x < count → y < rows → P (at + y * step + x))
    → (k : ℕ) → k < rows * count → P (at + k)
flat_row P at step count rows same each k below =
    let some = some_count rows count k below in
    let whole = div-add-mod' k count in
    let place : at + k / count * count + k % count ≡ at + k = omega (arith, whole) in
    subst P (ap (λ (s : ℕ). at + k / count * s + k % count) (sym same) ∙ place)
    (each (k % count) (k / count) (mod-lt k some) (div_below k count rows some below))
  where
    some_count : (rows count k : ℕ) → k < rows * count → 0 < count
    some_count rows zero k h = absurd (omega (arith, h))
    some_count rows (suc count) k h = omega arith

-- a layer whose rows adjoin is one row on each axis
pub flat_layer : (from old : List ℤ) (at apart step start less count rows : ℕ) (next : List ℤ) → count ≡ step
    → LayerAdded from old at apart start less (rows * count) 3 next → RowsAdded from old at apart step start less count rows next
flat_layer from old at apart step start less count rows next same added = record {
  done = λ x i j in_x axis in_y. (let below : j * count + x < rows * count = in_rows j x in_y in_x in
      let place : at + i * apart + (j * count + x) ≡ at + i * apart + j * step + x = omega arith ∙ ap (λ (s : ℕ). at + i * apart + j * s + x) same in
      let read : start + i * less + (j * count + x) ≡ start + i * less + j * count + x = omega arith in
      subst (λ (k : ℕ). get_or next k (pos 0) ≡ get_or old k (pos 0) +ℤ get_or from (start + i * less + j * count + x) (pos 0)) place
      (added.done (j * count + x) i below axis ∙ ap (λ (k : ℕ). get_or old (at + i * apart + (j * count + x)) (pos 0) +ℤ get_or from k (pos 0)) read));
  rest = λ k off. added.rest k (λ w i in_w axis e.
      flat_row (λ (j : ℕ). k ≢ j) (at + i * apart) step count rows same (λ x y h below. off x i y h axis below) w in_w e);
}
  where
    in_rows : (j x : ℕ) → j < rows → x < count → j * count + x < rows * count
    in_rows j x h k = let all : (j + 1) * count ≤ rows * count = mul-le-mul_right count (omega (arith, h)) in omega (arith, all, k)

-- the rows of n layers in order: each has one place for its layers in x
abbrev pub rows_of : Triple → Triple
rows_of n = record { x = 1; y = n.y; z = n.z }

pub rows_count : (n : Triple) → 3 * count_of (rows_of n) ≡ 3 * (n.y * n.z)
rows_count n = omega arith
