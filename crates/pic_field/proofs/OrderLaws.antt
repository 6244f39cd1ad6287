-- The order of places, by axis, z, y and x, is that of their numbers.
use Rattle.std.proofs.Common.{◌≡◌, ℕ, ◌+◌, ◌*◌, ◌<◌, ◌⊎◌, inl, inr, sym, ap, subst, arith}
use Rattle.std.proofs.lemmas.Bool.{cases_order}
use Rattle.std.proofs.lemmas.Nat.{mul-add-lt, same_from_place}
use Rattle.pic_num.specs.declared.axis.Axis.{Axis}
use Rattle.pic_num.specs.Space.{Triple, axis_number}
use Rattle.pic_num.proofs.AxisLaws.{same_axis_number}
use Rattle.pic_block.specs.Cells.{IsWithin, index_of, place_of}
use Rattle.pic_field.specs.LeastStop.{IsBefore, less_axis, less_z, less_y, less_x}

-- a number written with the digits a, z, y and x, in a box of r cells
abbrev pub digits : Triple → Axis → Triple → ℕ
digits r a p = ((axis_number a * r.z + p.z) * r.y + p.y) * r.x + p.x

-- a lower row has the lower numbers,
row_less : (w r s x y : ℕ) → r < s → x < w → r * w + x < s * w + y
row_less w r s x y less below =
    let h : r * w + x < w * s = mul-add-lt r w x s less below in
    omega arith

same_row : (w r s x y : ℕ) → r ≡ s → x < y → r * w + x < s * w + y
same_row w r s x y same less = subst (λ (t : ℕ). r * w + x < t * w + y) same (omega (arith, less))

-- and a lower number is in a lower row, or less in the same one
row_cases : (w r s x y : ℕ) → y < w → r * w + x < s * w + y → (r < s) ⊎ ((r ≡ s) × (x < y))
row_cases w r s x y below less = elim (cases_order r s) [
  | inl same ↦ inr (same, let h : r * w + x < r * w + y = subst (λ (t : ℕ). r * w + x < t * w + y) (sym same) less in omega (arith, h))
  | inr apart ↦ elim apart [
    | inl lower ↦ inl lower
    | inr higher ↦ (let h = row_less w s r y x higher below in absurd (omega (arith, h, less)))
  ]
]

-- a place that comes before another has the lower number
pub before_less : (r : Triple) (b : Axis) (q : Triple) (a : Axis) (p : Triple) → IsWithin q r → IsBefore b q a p → digits r b q < digits r a p
before_less r b q a p w (less_axis less) =
    row_less r.x _ _ q.x p.x (row_less r.y _ _ q.y p.y (row_less r.z (axis_number b) (axis_number a) q.z p.z less w.z) w.y) w.x
before_less r b q a p w (less_z e less) =
    row_less r.x _ _ q.x p.x (row_less r.y _ _ q.y p.y (same_row r.z (axis_number b) (axis_number a) q.z p.z (ap axis_number e) less) w.y) w.x
before_less r b q a p w (less_y e z less) =
    row_less r.x _ _ q.x p.x (same_row r.y _ _ q.y p.y (λ i. axis_number (e i) * r.z + z i) less) w.x
before_less r b q a p w (less_x e z y less) =
    same_row r.x _ _ q.x p.x (λ i. (axis_number (e i) * r.z + z i) * r.y + y i) less

-- and a place of a lower number comes before
pub less_before : (r : Triple) (b : Axis) (q : Triple) (a : Axis) (p : Triple) → IsWithin q r → IsWithin p r → digits r b q < digits r a p → IsBefore b q a p
less_before r b q a p v w less = elim (row_cases r.x ((axis_number b * r.z + q.z) * r.y + q.y) ((axis_number a * r.z + p.z) * r.y + p.y) q.x p.x w.x less) [
  | inl lower ↦ elim (row_cases r.y (axis_number b * r.z + q.z) (axis_number a * r.z + p.z) q.y p.y w.y lower) [
    | inl layer ↦ elim (row_cases r.z (axis_number b) (axis_number a) q.z p.z w.z layer) [
      | inl axis ↦ less_axis axis
      | inr z ↦ less_z (same_axis_number b a z.0) z.1
    ]
    | inr y ↦ (let at = same_from_place (axis_number b) q.z (axis_number a) p.z r.z v.z w.z y.0 in less_y (same_axis_number b a at.0) at.1 y.1)
  ]
  | inr x ↦ (
      let row = same_from_place (axis_number b * r.z + q.z) q.y (axis_number a * r.z + p.z) p.y r.y v.y w.y x.0 in
      let at = same_from_place (axis_number b) q.z (axis_number a) p.z r.z v.z w.z row.0 in
      less_x (same_axis_number b a at.0) at.1 row.1 x.1
      )
]

-- the number of a place of a lattice
place_digits : (n : Triple) (a : Axis) (p : Triple) → place_of n a p ≡ digits n a p
unfolding place_of index_of
place_digits n a p = omega arith

pub before_place : (n : Triple) (b : Axis) (q : Triple) (a : Axis) (p : Triple) → IsWithin q n → IsBefore b q a p → place_of n b q < place_of n a p
before_place n b q a p w before =
    let less = before_less n b q a p w before in
    let here = place_digits n b q in
    let there = place_digits n a p in
    omega (arith, less, here, there)

pub place_before : (n : Triple) (b : Axis) (q : Triple) (a : Axis) (p : Triple) → IsWithin q n → IsWithin p n → place_of n b q < place_of n a p
    → IsBefore b q a p
place_before n b q a p v w less =
    let here = place_digits n b q in
    let there = place_digits n a p in
    less_before n b q a p v w (omega (arith, less, here, there))
