-- What the rows of a line hold at a place of it, and what their curl makes of a value there.
use Rattle.std.proofs.Common.{◌≡◌, ℕ, ℤ, pos, ◌+◌, ◌-◌, ◌%◌, ◌<◌, ◌≤◌, ◌+ℤ◌, ◌-ℤ◌, Bool, true, false}
use Rattle.std.proofs.Common.{List, [], ◌∷◌, sym, ◌∙◌, ap, subst, unsigned_abs, arith}
use Rattle.std.proofs.Math.Nat.{mod-eq_of_lt}
use Rattle.pic_num.specs.declared.mult.Scales.{Scales}
use Rattle.pic_num.specs.declared.axis.Axis.{Axis}
use Rattle.pic_num.specs.Space.{Triple, Spot, next_axis}
use Rattle.pic_num.proofs.Ring.{ring, reads}
use Rattle.pic_block.specs.Cells.{IsWithin}
use Rattle.pic_block.specs.Block.{IsAmongCells, outer_of}
use Rattle.pic_grid.specs.Differences.{down, curl_b}
use Rattle.pic_grid.specs.Lattice.{Field}
use Rattle.pic_field.specs.FieldPhases.{half_of, full_of, driven_b, no_drive}
use Rattle.pic_field.specs.declared.row.CurlRows.{CurlRows}
use Rattle.pic_field.specs.Beside.{layer_beside, next_to, curl_beside, first_index, room_layer, row_room}
use Rattle.pic_field.specs.Lines.{OnRow, line_start, swept}
use Rattle.pic_field.specs.Rows.{scaled_of, row_at, curl_of, curl_at, IsScaledRow}
use Rattle.pic_field.proofs.BesideLaws.{beside_up, beside_down, own_layer, side_layer}

-- what holds along a row holds at each place of it
pub at_row : (P : Axis → Triple → Type 0) (axis : Axis) (y z : ℕ) (n : Triple) → ((x : ℕ) → x < n.x → P axis (record { x = x; y = y; z = z }))
    → (a : Axis) (p : Triple) → IsWithin p n → OnRow axis y z a p → P a p
at_row P axis y z n along a p w on =
    let at : record { x = p.x; y = y; z = z } ≡ p = λ i. record { x = p.x; y = sym on.y_is i; z = sym on.z_is i } in
    subst (λ (c : Axis). P c p) (sym on.axis_is) (subst (λ (q : Triple). P axis q) at (along p.x w.x))

-- the value at the index i of a row that begins at a line's first cell
pub row_here : (n : Triple) (g : Axis → Triple → ℤ) (low : Spot) (size : Triple) (y z i : ℕ) → IsAmongCells low size n → i < size.x
    → (a : Axis) (first past : ℕ) (row : List ℤ) → IsScaledRow n g a (line_start low y z) first past row → first ≤ i → i < past
    → row_at row i ≡ g a (outer_of low (record { x = i; y = y; z = z }))
row_here n g low size y z i among inside a first past row is from below =
    let here : Triple = outer_of low (record { x = i; y = y; z = z }) in
    let fits : unsigned_abs low.x + 0 + i < n.x = omega (arith, among.x_high, inside) in
    let at : (unsigned_abs low.x + 0 + i) % n.x ≡ here.x = mod-eq_of_lt fits ∙ omega arith in
    is.values i from below ∙ ap (λ (x : ℕ). g a (record here { x = x })) at

-- the rows of a line of count cells, that is one of a zone from the layer low on, or lies beside it
module _ (d : Bool) (n : Triple) (g : Axis → Triple → ℤ) (low count y z : ℕ) (fits : low + count ≤ n.x) (a : Axis) (first past : ℕ) (row : List ℤ)
    (is : IsScaledRow n g a (row_room d n (record { x = low + 0; y = y; z = z })) first past row)
  where
    -- the value at a cell of the line,
    pub own_value : first ≤ first_index d → first_index d + count ≤ past → (i : ℕ) → i < count
        → row_at row (first_index d + i) ≡ g a (record { x = low + i; y = y; z = z })
    own_value from to i below =
        let same : low + 0 + i ≡ low + i = omega arith in
        let at : (room_layer d n.x (low + 0) + (first_index d + i)) % n.x ≡ low + i = own_layer d n.x (low + 0) i (omega (arith, fits, below)) ∙ same in
        is.values (first_index d + i) (omega (arith, from)) (omega (arith, to, below)) ∙ ap (λ (x : ℕ). g a (record { x = x; y = y; z = z })) at

    -- and beside it
    pub side_value : first ≤ 0 → count + 1 ≤ past → (i : ℕ) → i < count
        → row_at row (1 - first_index d + i) ≡ g a (record { x = layer_beside d n.x (low + i); y = y; z = z })
    side_value from to i below =
        let same : low + 0 + i ≡ low + i = omega arith in
        let at : (room_layer d n.x (low + 0) + (1 - first_index d + i)) % n.x ≡ layer_beside d n.x (low + i) =
        side_layer d n.x (low + 0) i ∙ ap (layer_beside d n.x) same in
        is.values (1 - first_index d + i) (omega (arith, from)) (omega (arith, to, below)) ∙ ap (λ (x : ℕ). g a (record { x = x; y = y; z = z })) at

    -- as parts of the row have them
    module _ (part : List ℤ) (near : ℕ) (is_near : near ≡ first_index d)
      where
        pub own_part : first ≤ first_index d → first_index d + count ≤ past → ((i : ℕ) → i < count → row_at part i ≡ row_at row (near + i))
            → (i : ℕ) → i < count → row_at part i ≡ g a (record { x = low + i; y = y; z = z })
        own_part from to values i below = values i below ∙ ap (λ (k : ℕ). row_at row (k + i)) is_near ∙ own_value from to i below

        pub side_part : first ≤ 0 → count + 1 ≤ past → ((i : ℕ) → i < count → row_at part i ≡ row_at row (1 - near + i))
            → (i : ℕ) → i < count → row_at part i ≡ g a (record { x = layer_beside d n.x (low + i); y = y; z = z })
        side_part from to values i below = values i below ∙ ap (λ (k : ℕ). row_at row (1 - k + i)) is_near ∙ side_value from to i below

-- four rows are what the curl on an axis reads along a line
pub record AreRead (d : Bool) (n : Triple) (g : Axis → Triple → ℤ) (low : Spot) (y z count : ℕ) (axis : Axis) (four : CurlRows) : Type 0 where
  pub far_third : (i : ℕ) → i < count → row_at four.far_third.now i
      ≡ g (next_axis (next_axis axis)) (next_to d n (next_axis axis) (outer_of low (record { x = i; y = y; z = z })))
  pub near_third : (i : ℕ) → i < count → row_at four.near_third.now i ≡ g (next_axis (next_axis axis)) (outer_of low (record { x = i; y = y; z = z }))
  pub far_second : (i : ℕ) → i < count → row_at four.far_second.now i
      ≡ g (next_axis axis) (next_to d n (next_axis (next_axis axis)) (outer_of low (record { x = i; y = y; z = z })))
  pub near_second : (i : ℕ) → i < count → row_at four.near_second.now i ≡ g (next_axis axis) (outer_of low (record { x = i; y = y; z = z }))

-- with them a row is swept
pub row_swept : (d : Bool) (n : Triple) (g : Axis → Triple → ℤ) (low : Spot) (size : Triple) (y z : ℕ) (axis : Axis)
    (four : CurlRows) → AreRead d n g low y z size.x axis four
    → (a : Axis) (p : Triple) → IsWithin p size → OnRow axis y z a p → (v : ℤ) → v -ℤ curl_at four p.x ≡ swept d n g low a p v
row_swept d n g low size y z axis four read =
    at_row (λ a p. (v : ℤ) → v -ℤ curl_at four p.x ≡ swept d n g low a p v) axis y z size (λ i below v.
    λ j. v -ℤ curl_of (read.far_third i below j) (read.near_third i below j) (read.far_second i below j) (read.near_second i below j))

-- half a step of B takes off the curl of the scaled E toward the next cells,
pub half_is : (scales : Scales) (e : Field) (a : Axis) (q : Triple) (v : ℤ)
    → v -ℤ curl_beside true e.cells (scaled_of e scales.e_to_b) a q ≡ half_of scales e a q v
unfolding half_of
half_is scales e a q v =
    let g = scaled_of e scales.e_to_b in
    let second = next_axis a in
    let third = next_axis second in
    λ i. v -ℤ curl_of (g third (beside_up e.cells second q i)) (g third q) (g second (beside_up e.cells third q i)) (g second q)

full_sum : (e far_third near_third far_second near_second : ℤ)
    → e -ℤ curl_of far_third near_third far_second near_second
    ≡ e +ℤ (near_third +ℤ pos 0 -ℤ (far_third +ℤ pos 0) -ℤ (near_second +ℤ pos 0) +ℤ (far_second +ℤ pos 0)) -ℤ pos 0
full_sum e far_third near_third far_second near_second =
    ring (e ∷ far_third ∷ near_third ∷ far_second ∷ near_second ∷ []) (search reads depth 14) tt

-- and a step of E without a current that of the scaled B toward the last ones, turned round
pub full_is : (scales : Scales) (b : Field) (a : Axis) (q : Triple) (v : ℤ)
    → v -ℤ curl_beside false b.cells (scaled_of b scales.b_to_e) a q ≡ full_of scales b no_drive a q v (pos 0)
unfolding full_of
full_is scales b a q v =
    let g = scaled_of b scales.b_to_e in
    let h = driven_b scales b no_drive in
    let second = next_axis a in
    let third = next_axis second in
    full_sum v (g third (next_to false b.cells second q)) (g third q) (g second (next_to false b.cells third q)) (g second q)
    ∙ (λ i. v +ℤ (h third q -ℤ h third (beside_down b.cells second q i) -ℤ h second q +ℤ h second (beside_down b.cells third q i)) -ℤ pos 0)

raised_sum : (v j a b c d m n o p : ℤ)
    → v +ℤ (m -ℤ n -ℤ o +ℤ p -ℤ j) +ℤ (a +ℤ pos 0 -ℤ (b +ℤ pos 0) -ℤ (c +ℤ pos 0) +ℤ (d +ℤ pos 0)) -ℤ pos 0
    ≡ v +ℤ (a +ℤ m -ℤ (b +ℤ n) -ℤ (c +ℤ o) +ℤ (d +ℤ p)) -ℤ j
raised_sum v j a b c d m n o p = ring (v ∷ j ∷ a ∷ b ∷ c ∷ d ∷ m ∷ n ∷ o ∷ p ∷ []) (search reads depth 24) tt

-- the curl is linear: what drives B may as well be added to E first, by its curl, and the current taken off
pub full_of-raised : (scales : Scales) (b : Field) (m : Axis → Triple → ℤ) (a : Axis) (q : Triple) (v j : ℤ)
    → full_of scales b no_drive a q (v +ℤ (curl_b b.cells m a q -ℤ j)) (pos 0) ≡ full_of scales b m a q v j
unfolding full_of
full_of-raised scales b m a q v j =
    let g = scaled_of b scales.b_to_e in
    let n = b.cells in
    let second = next_axis a in
    let third = next_axis second in
    raised_sum v j (g third q) (g third (down n second q)) (g second q) (g second (down n third q)) (m third q) (m third (down n second q)) (m second q)
    (m second (down n third q))

lessened_sum : (v j c : ℤ) → v -ℤ j +ℤ c -ℤ pos 0 ≡ v +ℤ c -ℤ j
lessened_sum v j c = ring (v ∷ j ∷ c ∷ []) (search reads depth 10) tt

-- so may the current alone
pub full_of-lessened : (scales : Scales) (b : Field) (a : Axis) (q : Triple) (v j : ℤ)
    → full_of scales b no_drive a q (v -ℤ j) (pos 0) ≡ full_of scales b no_drive a q v j
unfolding full_of
full_of-lessened scales b a q v j = lessened_sum v j (curl_b b.cells (driven_b scales b no_drive) a q)
