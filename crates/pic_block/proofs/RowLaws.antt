-- Rows of a block: where their places are, and what a write of one leaves.
use Rattle.std.proofs.Common.{◌≡◌, ℕ, ℤ, pos, ◌+◌, ◌-◌, ◌*◌, ◌<◌, ◌≤◌, List, ◌++◌, length, take, drop, slice_index_or, inl, inr, refl, sym, ◌∙◌, ap, arith}
use Rattle.std.proofs.lemmas.Bool.{cases_lt}
use Rattle.std.proofs.Math.Nat.{mul-le-mul_right}
use Rattle.std.proofs.lemmas.Nat.{mul-add-lt}
use Rattle.std.proofs.lemmas.List.{length-take-le, length-drop, get_or-take, get_or-drop, get_or-append_right, drop-drop, take_at}
use Rattle.pic_num.specs.declared.axis.Axis.{Axis}
use Rattle.pic_num.specs.Space.{Triple, axis_number}
use Rattle.pic_num.proofs.AxisLaws.{axis_below}
use Rattle.pic_block.specs.Cells.{IsWithin, count_of, index_of, place_of}
use Rattle.pic_block.specs.Block.{BlockValues, inner_at}
use Rattle.pic_block.specs.Lending.{with_values}
use Rattle.pic_block.specs.Rows.{row_of, with_row}
use Rattle.pic_block.proofs.CellLaws.{place_of_same}
use Rattle.pic_block.proofs.WrittenLaws.{written_before, written_part, written_long}

-- the places of a row follow each other
pub place_of-row : (n : Triple) (a : Axis) (x y z : ℕ) → place_of n a (record { x = x; y = y; z = z }) ≡ row_of n a y z + x
unfolding place_of index_of
place_of-row n a x y z = omega arith

pub place_of-along : (n : Triple) (a : Axis) (p : Triple) (i : ℕ) → place_of n a (record p { x = p.x + i }) ≡ place_of n a p + i
place_of-along n a p i = let row = place_of-row n a (p.x + i) p.y p.z in let first = place_of-row n a p.x p.y p.z in omega (arith, row, first)

-- and end among those of the box
pub row_fits : (n : Triple) (a : Axis) (y z : ℕ) → y < n.y → z < n.z → row_of n a y z + n.x ≤ 3 * count_of n
unfolding place_of index_of
row_fits n a y z in_y in_z =
    let layer = mul-add-lt (axis_number a) n.z z 3 (axis_below a) in_z in
    let line = mul-add-lt (axis_number a * n.z + z) n.y y (n.z * 3) layer in_y in
    let all : ((axis_number a * n.z + z) * n.y + y + 1) * n.x ≤ n.y * (n.z * 3) * n.x = mul-le-mul_right n.x (omega (arith, line)) in
    omega (arith, all)

-- its first place, as the code counts it: whole layers, and whole rows of the last
pub row_start : (n : Triple) (a : Axis) (y z : ℕ) → row_of n a y z ≡ (axis_number a * n.z + z) * (n.y * n.x) + y * n.x
unfolding place_of index_of
row_start n a y z = omega arith

-- what is read of a part,
pub part_at : (xs : List ℤ) (start k i : ℕ) → i < k → slice_index_or (take k (drop start xs)) i (pos 0) ≡ slice_index_or xs (start + i) (pos 0)
part_at xs start k i h = get_or-take k (drop start xs) i (pos 0) h ∙ get_or-drop start xs i (pos 0)

-- and how long it is
pub part_long : (xs : List ℤ) (start k : ℕ) → start + k ≤ length xs → length (take (start + k - start) (drop start xs)) ≡ k
part_long xs start k fits =
    let rest = length-drop start xs in
    length-take-le (start + k - start) (drop start xs) (omega (arith, rest)) ∙ omega arith

-- what is read of a row
pub row_value : (b : BlockValues) (values : List ℤ) (start k : ℕ) (a : Axis) (x y z : ℕ) → values ≡ b.values → start ≡ row_of b.size a y z → x < k
    → slice_index_or (take k (drop start values)) x (pos 0) ≡ inner_at b a (record { x = x; y = y; z = z })
row_value b values start k a x y z same at below =
    part_at values start k x below
    ∙ (λ i. slice_index_or (same i) (at i + x) (pos 0))
    ∙ ap (λ (j : ℕ). slice_index_or b.values j (pos 0)) (sym (place_of-row b.size a x y z))

-- what a write of a row makes of the values
pub row_written : (b : BlockValues) (values row : List ℤ) (start k : ℕ) (a : Axis) (y z : ℕ) → values ≡ b.values → start ≡ row_of b.size a y z → k ≡ b.size.x
    → record b { values = take start values ++ (row ++ drop k (drop start values)) } ≡ with_row b a y z row
unfolding with_row
row_written b values row start k a y z same at size =
    let rest : drop k (drop start values) ≡ drop (row_of b.size a y z + b.size.x) b.values =
    drop-drop k start values ∙ (λ i. drop (at i + size i) (same i)) in
    λ i. record b { values = take (at i) (same i) ++ (row ++ rest i) }

pub written_length : (values row : List ℤ) (start k : ℕ) → start + k ≤ length values → length row ≡ k
    → length (take start values ++ (row ++ drop k (drop start values))) ≡ length values
written_length values row start k fits size =
    let rest = length-drop k (drop start values) in
    let all = written_long values row (drop k (drop start values)) start (omega (arith, fits)) in
    omega (arith, fits, size, rest, length-drop start values, all)

-- and of a block whose values were lent for it
pub row_given : (b : BlockValues) (values row : List ℤ) (start k : ℕ) (a : Axis) (y z : ℕ) → values ≡ b.values → start ≡ row_of b.size a y z → k ≡ b.size.x
    → start + k ≤ length values → length row ≡ k → with_values b (take start values ++ (row ++ drop k (drop start values))) ≡ with_row b a y z row
row_given b values row start k a y z same at size fits long =
    let written = take start values ++ (row ++ drop k (drop start values)) in
    let whole : length written ≡ length b.values = written_length values row start k fits long ∙ ap length same in
    let all = take_at written (drop (length written) b.values) (length b.values) whole in
    (λ i. record b { values = all i }) ∙ row_written b values row start k a y z same at size

-- a component isn't one of the row on an axis at the layers y and z
pub record IsOff (axis : Axis) (y z : ℕ) (a : Axis) (p : Triple) : Type 0 where
  pub off : a ≡ axis → p.y ≡ y → p.z ≡ z → ⊥

module _ (b : BlockValues) (axis : Axis) (y z : ℕ) (row : List ℤ) (whole : length b.values ≡ 3 * count_of b.size) (in_y : y < b.size.y)
    (in_z : z < b.size.z) (size : length row ≡ b.size.x)
  where
    abbrev start : ℕ
    start = row_of b.size axis y z

    room : start ≤ length b.values
    room = let fits = row_fits b.size axis y z in_y in_z in omega (arith, whole, fits)

    -- after the write the row has its new values,
    pub row_here : (x : ℕ) → x < b.size.x → inner_at (with_row b axis y z row) axis (record { x = x; y = y; z = z }) ≡ slice_index_or row x (pos 0)
    unfolding with_row
    row_here x below =
        let at = place_of-row b.size axis x y z in
        let rest = drop (start + b.size.x) b.values in
        let same : start + x - start ≡ x = omega arith in
        ap (λ (i : ℕ). slice_index_or (take start b.values ++ (row ++ rest)) i (pos 0)) at
        ∙ written_part b.values row rest start room (start + x) (pos 0) (omega arith) (omega (arith, size, same, below))
        ∙ ap (λ (i : ℕ). slice_index_or row i (pos 0)) same

    -- and every other component stays
    pub row_others : (a : Axis) (p : Triple) → IsWithin p b.size → IsOff axis y z a p → inner_at (with_row b axis y z row) a p ≡ inner_at b a p
    unfolding with_row
    row_others a p w off = elim (cases_lt i start) as (λ _. slice_index_or (take start b.values ++ rest) i (pos 0) ≡ slice_index_or b.values i (pos 0)) [
      | inl below ↦
          written_before b.values row (drop (start + b.size.x) b.values) start room i (pos 0) below
      | inr more ↦ elim (cases_lt (i - start) b.size.x) as (λ _. slice_index_or (take start b.values ++ rest) i (pos 0) ≡ slice_index_or b.values i (pos 0)) [
        | inl inside ↦
            (let at : place_of b.size axis (record { x = i - start; y = y; z = z }) ≡ i = place_of-row b.size axis (i - start) y z ∙ omega arith in
            let both = place_of_same b.size a p axis (record { x = i - start; y = y; z = z }) w (record { x = inside; y = in_y; z = in_z }) (sym at) in
            absurd (off.off both.0 (ap (λ (q : Triple). q.y) both.1) (ap (λ (q : Triple). q.z) both.1)))
        | inr above ↦
            (let last : start + b.size.x + (i - start - b.size.x) ≡ i = omega arith in
            get_or-append_right (take start b.values) rest start i (pos 0) (length-take-le start b.values room) more
            ∙ get_or-append_right row (drop (start + b.size.x) b.values) b.size.x (i - start) (pos 0) size above
            ∙ get_or-drop (start + b.size.x) b.values (i - start - b.size.x) (pos 0)
            ∙ ap (λ (j : ℕ). slice_index_or b.values j (pos 0)) last)
      ]
    ]
      where
        i : ℕ
        i = place_of b.size a p

        rest : List ℤ
        rest = row ++ drop (start + b.size.x) b.values

-- a block keeps its shape
pub row_shape : (b : BlockValues) (axis : Axis) (y z : ℕ) (row : List ℤ) → (with_row b axis y z row).low ≡ b.low
unfolding with_row
row_shape b axis y z row = refl

pub row_size : (b : BlockValues) (axis : Axis) (y z : ℕ) (row : List ℤ) → (with_row b axis y z row).size ≡ b.size
unfolding with_row
row_size b axis y z row = refl
