-- On one axis the step to a cell leads to the tile of the cell that it wraps to.
use Rattle.std.proofs.Common.{◌≡◌, ℕ, zero, suc, ◌+◌, ◌-◌, ◌*◌, ◌/◌, ◌%◌, ◌<◌, ◌≤◌, inl, inr, refl, sym, ◌∙◌, ap, subst, arith}
use Rattle.std.proofs.Math.IntN.{ℤ, pos, negsuc, ◌+ℤ◌, ◌-ℤ◌, ◌*ℤ◌}
use Rattle.std.proofs.Math.Nat.{mul-le-mul_right}
use Rattle.std.proofs.lemmas.Bool.{cases_eq, cases_lt}
use Rattle.std.proofs.lemmas.Bool.Decides.{nat_tests}
use Rattle.std.proofs.lemmas.Int.{ints, by_lt_z}
use Rattle.std.proofs.lemmas.Nat.{div-add-mod', div-mul-add, div_below, mod_below}
use Rattle.std.specs.Prelude.{◌≤ℤ◌, ◌<ℤ◌, [], ◌∷◌, unsigned_abs}
use Rattle.pic_num.proofs.Ring.{ring, reads}
use Rattle.pic_num.proofs.RoundingLaws.{residue-is, residue-unique}
use Rattle.pic_num.specs.Rounding.{IsResidue, residue}
use Rattle.pic_grid.proofs.FloorLaws.{floor_is, floors_next}
use Rattle.pic_grid.proofs.PathLaws.{floor_low, floor_high}
use Rattle.pic_grid.proofs.TwoHatLaws.{further_times}
use Rattle.pic_grid.specs.Path.{floor_of}
use Rattle.pic_tile.proofs.RingLaws.{ring_first, ring_down, ring_stays, ring_last, ring_up}
use Rattle.pic_tile.specs.Directions.{ring_step}
use Rattle.pic_tile.specs.Leaving.{step_to}

-- A floor of a residue.

-- the floor is the one cell that has the coordinate
floor_unique : (side : ℕ) (p v : ℤ) → 0 < side → (v *ℤ pos side) ≤ℤ p → p <ℤ (v *ℤ pos side +ℤ pos side) → floor_of side p ≡ v
floor_unique side p v some low high =
    let u = floor_of side p in
    let u_low = floor_low side p some in
    let u_high = floor_high side p some in
    by_lt_z u v
    (λ under. let t = further_times side u v under in absurd (omega (arith, ints, t, low, u_high)))
    (λ least. by_lt_z v u
    (λ over. let t = further_times side v u over in absurd (omega (arith, ints, t, high, u_low)))
    (λ most. omega (arith, ints, least, most)))

turns_times : (m n c s : ℤ) → (m *ℤ n +ℤ c) *ℤ s ≡ m *ℤ (n *ℤ s) +ℤ c *ℤ s
turns_times m n c s = ring (m ∷ n ∷ c ∷ s ∷ []) (search reads depth 40 fits 9000) tt

some_times : (a b : ℕ) → 0 < a → 0 < b → 0 < a * b
some_times a b h k = let t : 1 * b ≤ a * b = mul-le-mul_right b (omega arith) in omega (arith, t)

-- the cell of what a coordinate wraps to is what its cell wraps to
pub floor_residue : (side n : ℕ) (p : ℤ) → 0 < side → 0 < n → IsResidue (floor_of side p) n (residue p (n * side) / side)
floor_residue side n p some cells =
    let r = residue p (n * side) in
    let c = r / side in
    let is = residue-is p (n * side) (some_times n side cells some) in
    let m = is.turns.0 in
    let times : (m *ℤ pos n +ℤ pos c) *ℤ pos side ≡ m *ℤ pos (n * side) +ℤ pos (c * side) = turns_times m (pos n) (pos c) (pos side) in
    let rest : r % side < side = mod_below r side some in
    let whole : c * side + r % side ≡ r = div-add-mod' r side in
    record {
      below = div_below r side n some is.below;
      turns = (
        m,
        floor_unique side p (m *ℤ pos n +ℤ pos c) some (omega (arith, ints, times, whole, is.turns.1))
            (omega (arith, ints, times, whole, rest, is.turns.1)),
      );
    }

-- Numbers of cells and tiles: k tiles of n cells.

row_least : (t n : ℕ) → 0 < t → n ≤ t * n
row_least t n h = let e : 1 * n ≤ t * n = mul-le-mul_right n (omega arith) in omega (arith, e)

row_after : (t n : ℕ) → (t + 1) * n ≡ t * n + n
row_after t n = omega arith

row_before : (t n : ℕ) → 0 < t → (t - 1) * n + n ≡ t * n
row_before zero n h = absurd (omega arith)
row_before (suc t) n h = let e : suc t - 1 ≡ t = omega arith in rw e (omega arith)

tile_is : (j t n r : ℕ) → j ≡ t * n + r → r < n → j / n ≡ t
tile_is j t n r e h = ap (λ (i : ℕ). i / n) e ∙ div-mul-add t n r h

-- a number of cells is what it wraps to
inside : (j n : ℕ) → j < n → IsResidue (pos j) n j
inside j n h = record { below = h; turns = (pos 0, omega (arith, ints)) }

same_residue : (u : ℤ) (n w v : ℕ) → IsResidue u n w → IsResidue u n v → w ≡ v
same_residue u n w v g h = let some : 0 < n = omega (arith, g.below) in residue-unique u n w some g ∙ sym (residue-unique u n v some h)

-- The steps.

-- under the tile
step_under : (k n t j w : ℕ) → 2 ≤ n → t < k → j + 1 ≡ t * n → IsResidue (pos j) (k * n) w → w / n ≡ ring_step k 0 t
step_under k n t j w two below at is =
    let some : 0 < t = elim (cases_eq t 0) [
      | inl none ↦ (let e : t * n ≡ 0 = ap (λ (i : ℕ). i * n) none ∙ omega arith in absurd (omega (arith, e)))
      | inr more ↦ omega arith
    ] in
    let before : (t - 1) * n + n ≡ t * n = row_before t n some in
    let most : (t + 1) * n ≤ k * n = mul-le-mul_right n (omega arith) in
    let row : (t + 1) * n ≡ t * n + n = row_after t n in
    let j_in : j < k * n = omega (arith, most, row) in
    same_tile (same_residue (pos j) (k * n) w j is (inside j (k * n) j_in))
    ∙ tile_is j (t - 1) n (n - 1) (omega (arith, before)) (omega arith)
    ∙ sym (ring_down k 0 t refl some below)
  where
    same_tile : w ≡ j → w / n ≡ j / n
    same_tile e = ap (λ (i : ℕ). i / n) e

-- under the grid
step_round : (k n t w : ℕ) → 2 ≤ n → t < k → t ≡ 0 → IsResidue (negsuc 0) (k * n) w → w / n ≡ ring_step k 0 t
step_round k n t w two below first is =
    let before : (k - 1) * n + n ≡ k * n = row_before k n (omega arith) in
    let last : k * n - 1 ≡ (k - 1) * n + (n - 1) = omega (arith, before) in
    let wraps : IsResidue (negsuc 0) (k * n) (k * n - 1) = record { below = omega (arith, before); turns = (negsuc 0, omega (arith, ints, before)) } in
    same_tile (same_residue (negsuc 0) (k * n) w (k * n - 1) is wraps)
    ∙ tile_is (k * n - 1) (k - 1) n (n - 1) last (omega arith)
    ∙ sym (ring_first k 0 t refl first (omega arith))
  where
    same_tile : w ≡ k * n - 1 → w / n ≡ (k * n - 1) / n
    same_tile e = ap (λ (i : ℕ). i / n) e

-- in the tile
step_none : (k n t j w : ℕ) → t < k → t * n ≤ j → j < t * n + n → IsResidue (pos j) (k * n) w → w / n ≡ ring_step k 1 t
step_none k n t j w below low high is =
    let most : (t + 1) * n ≤ k * n = mul-le-mul_right n (omega arith) in
    let row : (t + 1) * n ≡ t * n + n = row_after t n in
    let j_in : j < k * n = omega (arith, most, row) in
    ap (λ (i : ℕ). i / n) (same_residue (pos j) (k * n) w j is (inside j (k * n) j_in))
    ∙ tile_is j t n (j - t * n) (omega arith) (omega arith)
    ∙ sym (ring_stays k 1 t refl below)

-- over the tile
step_over : (k n t j w : ℕ) → 2 ≤ n → t < k → j ≡ t * n + n → IsResidue (pos j) (k * n) w → w / n ≡ ring_step k 2 t
step_over k n t j w two below at is = elim (cases_eq (t + 1) k) [
  | inl last ↦
      (let all : (t + 1) * n ≡ k * n = ap (λ (i : ℕ). i * n) last in
      let row : (t + 1) * n ≡ t * n + n = row_after t n in
      let wraps : IsResidue (pos j) (k * n) 0 = record { below = omega (arith, all, row); turns = (pos 1, omega (arith, ints, all, row)) } in
      ap (λ (i : ℕ). i / n) (same_residue (pos j) (k * n) w 0 is wraps) ∙ tile_is 0 0 n 0 (omega arith) (omega arith) ∙ sym (ring_last k 2 t refl last))
  | inr other ↦
      (let most : (t + 1 + 1) * n ≤ k * n = mul-le-mul_right n (omega arith) in
      let row : (t + 1) * n ≡ t * n + n = row_after t n in
      let next : (t + 1 + 1) * n ≡ (t + 1) * n + n = row_after (t + 1) n in
      ap (λ (i : ℕ). i / n) (same_residue (pos j) (k * n) w j is (inside j (k * n) (omega (arith, most, row, next))))
      ∙ tile_is j (t + 1) n 0 (omega (arith, row)) (omega arith)
      ∙ sym (ring_up k 2 t refl (omega arith)))
]

-- the step to a cell that lies next to one of the tile's, or is one
step_leads : (k n t q w : ℕ) (u : ℤ) → 2 ≤ n → t < k → q < n → (pos (t * n + q) -ℤ pos 1) ≤ℤ u → u ≤ℤ (pos (t * n + q) +ℤ pos 1) → IsResidue u (k * n) w
    → w / n ≡ ring_step k (step_to (t * n) n u) t
unfolding step_to
step_leads k n t q w (negsuc j) two below within low high is =
    let none : t * n + q ≡ 0 = omega (arith, ints, low) in
    let j_is : j ≡ 0 = omega (arith, ints, low) in
    let first : t ≡ 0 = elim (cases_eq t 0) [
      | inl e ↦ e
      | inr more ↦ (let least = row_least t n (omega arith) in absurd (omega (arith, least)))
    ] in
    step_round k n t w two below first (subst (λ (i : ℕ). IsResidue (negsuc i) (k * n) w) j_is is)
step_leads k n t q w (pos j) two below within low high is = elim (cases_lt j (t * n)) [
  | inl under ↦
      (let step : step_to (t * n) n (pos j) ≡ 0 = grind (arith, nat_tests) in
      step_under k n t j w two below (omega (arith, ints, low)) is ∙ ap (λ (e : ℕ). ring_step k e t) (sym step))
  | inr least ↦ elim (cases_lt j (t * n + n)) [
    | inl most ↦
        (let step : step_to (t * n) n (pos j) ≡ 1 = grind (arith, nat_tests) in
        step_none k n t j w below least most is ∙ ap (λ (e : ℕ). ring_step k e t) (sym step))
    | inr over ↦
        (let step : step_to (t * n) n (pos j) ≡ 2 = grind (arith, nat_tests) in
        step_over k n t j w two below (omega (arith, ints, high)) is ∙ ap (λ (e : ℕ). ring_step k e t) (sym step))
  ]
]

-- a coordinate that moves by at most a side: of k tiles of n cells, the step leads from its tile to
-- that of what it wraps to
pub axis_leads : (side k n p : ℕ) (d : ℤ) → 0 < side → 2 ≤ n → p < k * n * side → unsigned_abs d ≤ side
    → residue (pos p +ℤ d) (k * n * side) / side / n ≡ ring_step k (step_to (p / side / n * n) n (floor_of side (pos p +ℤ d))) (p / side / n)
axis_leads side k n p d some two within small =
    let c = p / side in
    let t = c / n in
    let cells : c < k * n = div_below p side (k * n) some within in
    let below : t < k = div_below c n k (omega arith) cells in
    let q_in : c % n < n = mod_below c n (omega arith) in
    let whole : t * n + c % n ≡ c = div-add-mod' c n in
    let next = floors_next side (pos p) d some small in
    let at = floor_is side p in
    let low : (pos (t * n + c % n) -ℤ pos 1) ≤ℤ floor_of side (pos p +ℤ d) = omega (arith, ints, next.0, at, whole) in
    let high : floor_of side (pos p +ℤ d) ≤ℤ (pos (t * n + c % n) +ℤ pos 1) = omega (arith, ints, next.1, at, whole) in
    step_leads k n t (c % n) (residue (pos p +ℤ d) (k * n * side) / side) (floor_of side (pos p +ℤ d)) two below q_in low high
    (floor_residue side (k * n) (pos p +ℤ d) some (omega arith))
