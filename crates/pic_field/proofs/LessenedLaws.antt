-- A row that is changed run by run.
use Rattle.std.proofs.Common.{◌≡◌, ℕ, ℤ, pos, ◌+◌, ◌-◌, ◌<◌, ◌≤◌, List, ◌++◌, length, take, drop, inl, inr, ◌∙◌, ap, arith}
use Rattle.std.proofs.lemmas.Bool.{cases_lt}
use Rattle.std.proofs.lemmas.List.{get_or-take, get_or-drop, get_or_append_left, get_or-append_right, length-take-le}
use Rattle.pic_block.proofs.RowLaws.{part_at}
use Rattle.pic_field.specs.Rows.{row_at}

-- of a row the values below done are changed by g, and the next ones are written: they are changed too
module _ (g : ℕ → ℤ → ℤ) (first row part : List ℤ) (done more : ℕ) (room : done + more ≤ length row) (long : length part ≡ more)
    (before : (k : ℕ) → k < done → row_at row k ≡ g k (row_at first k)) (rest : (k : ℕ) → done ≤ k → row_at row k ≡ row_at first k)
    (made : (i : ℕ) → i < more → row_at part i ≡ g (done + i) (row_at (take (done + more - done) (drop done row)) i))
  where
    abbrev tail : List ℤ
    tail = drop (done + more - done) (drop done row)

    abbrev pub all : List ℤ
    all = take done row ++ (part ++ tail)

    front : length (take done row) ≡ done
    front = length-take-le done row (omega (arith, room))

    behind : (k : ℕ) → done ≤ k → row_at all k ≡ row_at (part ++ tail) (k - done)
    behind k least = get_or-append_right (take done row) (part ++ tail) done k (pos 0) front least

    pub run_values : (k : ℕ) → k < done + more → row_at all k ≡ g k (row_at first k)
    run_values k below = elim (cases_lt k done) as (λ _. row_at all k ≡ g k (row_at first k)) [
      | inl less ↦
          get_or_append_left (take done row) (part ++ tail) (pos 0) k (omega (arith, front))
          ∙ get_or-take done row k (pos 0) less
          ∙ before k less
      | inr least ↦
          (let j : k - done < more = omega (arith, below, least) in
          let same : done + (k - done) ≡ k = omega (arith, least) in
          behind k least
          ∙ get_or_append_left part tail (pos 0) (k - done) (omega (arith, j, long))
          ∙ made (k - done) j
          ∙ ap (g (done + (k - done))) (part_at row done (done + more - done) (k - done) (omega (arith, j)))
          ∙ (λ i. g (same i) (row_at row (same i)))
          ∙ ap (g k) (rest k least))
    ]

    pub run_rest : (k : ℕ) → done + more ≤ k → row_at all k ≡ row_at first k
    run_rest k past =
        let same : done + (done + more - done + (k - done - more)) ≡ k = omega (arith, past) in
        behind k (omega (arith, past))
        ∙ get_or-append_right part tail more (k - done) (pos 0) long (omega (arith, past))
        ∙ get_or-drop (done + more - done) (drop done row) (k - done - more) (pos 0)
        ∙ get_or-drop done row (done + more - done + (k - done - more)) (pos 0)
        ∙ ap (row_at row) same
        ∙ rest k (omega (arith, past))
