-- What is kept of lines that are taken in: index by index, run by run, line by line.
use Rattle.std.proofs.Common.{◌≡◌, ◌≢◌, ℕ, ℤ, ◌+◌, ◌-◌, ◌%◌, ◌<◌, ◌≤◌, List, ◌++◌, length, take}
use Rattle.std.proofs.Common.{drop, replicate, slice_set, inl, inr, refl, sym, ◌∙◌, ap, subst, arith}
use Rattle.std.proofs.lemmas.Bool.{cases_lt}
use Rattle.std.proofs.lemmas.Int.{ints}
use Rattle.std.proofs.lemmas.List.{get_or-set_same, get_or-set_other, get_or-take, get_or-drop, get_or_append_left, get_or-append_right}
use Rattle.std.proofs.lemmas.List.{get_or_past, get_or-replicate, length-replicate, length-append, length-drop, length-take, length-take-le}
use Rattle.std.proofs.lemmas.Nat.{mod_below}
use Rattle.std.proofs.Math.Nat.{mod-add-mod, mod-eq_of_lt}
use borrow.Author.Count.{below_more}
use Rattle.pic_num.specs.Sizes.{IsAtMost}
use Rattle.pic_num.specs.Space.{Triple}
use Rattle.pic_block.specs.Cells.{IsWithin}
use Rattle.pic_filter.specs.declared.kept.Kept.{Kept}
use Rattle.pic_filter.specs.Kept.{none_kept, kept_at, taken, row_cell, IsSmall, AreSmall}
use Rattle.pic_filter.specs.Runs.{most_of_three}

-- what is kept stays small
pub taken_small : (k : Kept) (v : ℤ) → IsSmall k → IsAtMost v most_of_three → IsSmall (taken k v)
taken_small k v is small =
    let one = is.one.size in
    let two = is.two.size in
    let next = small.size in
    record {
      one = small;
      two = record { size = omega (arith, ints, one, next) };
      three = record { size = omega (arith, ints, one, two, next) };
    }

none_small : IsSmall none_kept
none_small = record { one = record { size = omega arith }; two = record { size = omega arith }; three = record { size = omega arith } }

-- also in a row where nothing is kept,
pub none_are_small : (count : ℕ) → AreSmall (replicate count none_kept)
none_are_small count = record {
  at = λ k. elim (cases_lt k count) as (λ _. IsSmall (kept_at (replicate count none_kept) k)) [
    | inl inside ↦ subst IsSmall (sym (get_or-replicate count k none_kept none_kept inside)) none_small
    | inr past ↦ subst IsSmall (sym (get_or_past (replicate count none_kept) k none_kept
        (let long = length-replicate count none_kept in omega (arith, past, long)))) none_small
  ];
}

-- in the first ones of a row,
pub front_small : (row : List Kept) (count : ℕ) → AreSmall row → AreSmall (take count row)
front_small row count small = record {
  at = λ k. elim (cases_lt k count) as (λ _. IsSmall (kept_at (take count row) k)) [
    | inl inside ↦ subst IsSmall (sym (get_or-take count row k none_kept inside)) (small.at k)
    | inr past ↦ subst IsSmall (sym (get_or_past (take count row) k none_kept (let most = length-take count row in omega (arith, past, most)))) none_small
  ];
}

-- and in a part of one
pub part_small : (row : List Kept) (from more : ℕ) → AreSmall row → AreSmall (take more (drop from row))
part_small row from more small =
    front_small (drop from row) more (record { at = λ k. subst IsSmall (sym (get_or-drop from row k none_kept)) (small.at (from + k)) })

-- how long a part of a row is, and the row with another part
pub part_long : (row : List Kept) (from more : ℕ) → from + more ≤ length row → length (take (from + more - from) (drop from row)) ≡ more
part_long row from more fits =
    let rest = length-drop from row in
    length-take-le (from + more - from) (drop from row) (omega (arith, fits, rest)) ∙ omega arith

pub filled_long : (row part : List Kept) (from more : ℕ) → from + more ≤ length row → length part ≡ more
    → length (take from row ++ (part ++ drop (from + more - from) (drop from row))) ≡ length row
filled_long row part from more fits long =
    let front = length-take-le from row (omega (arith, fits)) in
    let behind = length-drop from row in
    let rest = length-drop (from + more - from) (drop from row) in
    let all = length-append (take from row) (part ++ drop (from + more - from) (drop from row)) in
    omega (arith, fits, long, front, rest, behind, all, length-append part (drop (from + more - from) (drop from row)))

-- the numbers f are taken in below an index, and the rest is as it was
pub record TakenTo (f : ℕ → ℤ) (i : ℕ) (old now : List Kept) : Type 0 where
  pub done : (k : ℕ) → k < i → kept_at now k ≡ taken (kept_at old k) (f k)
  pub rest : (k : ℕ) → i ≤ k → kept_at now k ≡ kept_at old k

pub taken_none : (f : ℕ → ℤ) (old : List Kept) → TakenTo f 0 old old
taken_none f old = record { done = λ k below. absurd (omega (arith, below)); rest = λ k least. refl }

-- all of it is small
pub taken_to_small : (f : ℕ → ℤ) (i : ℕ) (old now : List Kept) → ((k : ℕ) → k < i → IsAtMost (f k) most_of_three) → AreSmall old → TakenTo f i old now
    → AreSmall now
taken_to_small f i old now bound small so = record {
  at = λ k. elim (cases_lt k i) as (λ _. IsSmall (kept_at now k)) [
    | inl below ↦ subst IsSmall (sym (so.done k below)) (taken_small (kept_at old k) (f k) (small.at k) (bound k below))
    | inr least ↦ subst IsSmall (sym (so.rest k least)) (small.at k)
  ];
}

-- one number more
pub taken_more : (f : ℕ → ℤ) (i : ℕ) (old now : List Kept) (v : Kept) → i < length now → TakenTo f i old now → v ≡ taken (kept_at old i) (f i)
    → TakenTo f (i + 1) old (slice_set now i v)
taken_more f i old now v inside so is = record {
  done = below_more (λ k. kept_at (slice_set now i v) k ≡ taken (kept_at old k) (f k)) i
      (λ k h. let other : k ≢ i = omega (arith, h) in get_or-set_other now i k v none_kept other ∙ so.done k h)
      (get_or-set_same now i v none_kept inside ∙ is);
  rest = λ k least. let other : k ≢ i = omega (arith, least) in get_or-set_other now i k v none_kept other ∙ so.rest k (omega (arith, least));
}

-- one run more
pub taken_run : (f : ℕ → ℤ) (done more : ℕ) (old row part : List Kept) → done + more ≤ length row → length part ≡ more → TakenTo f done old row
    → ((j : ℕ) → j < more → kept_at part j ≡ taken (kept_at (take (done + more - done) (drop done row)) j) (f (done + j)))
    → TakenTo f (done + more) old (take done row ++ (part ++ drop (done + more - done) (drop done row)))
taken_run f done more old row part fits long so values = record {
  done = λ k below. elim (cases_lt k done) as (λ _. kept_at all k ≡ taken (kept_at old k) (f k)) [
    | inl less ↦
        get_or_append_left (take done row) (part ++ rest) none_kept k (omega (arith, front, less))
        ∙ get_or-take done row k none_kept less
        ∙ so.done k less
    | inr least ↦
        (let j : k - done < more = omega (arith, below, least) in
        let same : done + (k - done) ≡ k = omega (arith, least) in
        let here = get_or-take (done + more - done) (drop done row) (k - done) none_kept (omega (arith, j)) ∙ get_or-drop done row (k - done) none_kept in
        behind k least
        ∙ get_or_append_left part rest none_kept (k - done) (omega (arith, long, j))
        ∙ values (k - done) j
        ∙ ap (λ (u : Kept). taken u (f (done + (k - done)))) here
        ∙ ap (λ (m : ℕ). taken (kept_at row m) (f m)) same
        ∙ ap (λ (u : Kept). taken u (f k)) (so.rest k least))
  ];
  rest = λ k least.
      let j : k - done - more + (done + more - done) + done ≡ k = omega (arith, least) in
      behind k (omega (arith, least))
      ∙ get_or-append_right part rest more (k - done) none_kept long (omega (arith, least))
      ∙ get_or-drop (done + more - done) (drop done row) (k - done - more) none_kept
      ∙ get_or-drop done row (done + more - done + (k - done - more)) none_kept
      ∙ ap (kept_at row) (omega (arith, least))
      ∙ so.rest k (omega (arith, least));
}
  where
    rest : List Kept
    rest = drop (done + more - done) (drop done row)

    all : List Kept
    all = take done row ++ (part ++ rest)

    front : length (take done row) ≡ done
    front = length-take-le done row (omega (arith, fits))

    behind : (k : ℕ) → done ≤ k → kept_at all k ≡ kept_at (part ++ rest) (k - done)
    behind k least = get_or-append_right (take done row) (part ++ rest) done k none_kept front least

-- the layer j further than one that lies d round from s, where it doesn't pass the last
pub round_next : (n s d x j : ℕ) → x ≡ (s + d) % n → x + j < n → (s + (d + j)) % n ≡ x + j
round_next n s d x j at below =
    let sum : s + (d + j) ≡ s + d + j = omega arith in
    ap (λ (m : ℕ). m % n) sum ∙ sym (mod-add-mod (s + d) n j) ∙ ap (λ (m : ℕ). (m + j) % n) (sym at) ∙ mod-eq_of_lt below

-- the cells of a row are cells
pub row_within : (n p : Triple) (i : ℕ) → IsWithin p n → IsWithin (row_cell n p i) n
row_within n p i w = let x = w.x in record { x = mod_below _ n.x (omega (arith, x)); y = w.y; z = w.z }
