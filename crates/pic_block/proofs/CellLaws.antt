-- A place and its number determine each other.
use Rattle.std.proofs.Common.{◌≡◌, ℕ, zero, suc, ◌+◌, ◌*◌, ◌/◌, ◌%◌, ◌<◌, inl, inr, refl, ◌∙◌, ap, subst, arith}
use Rattle.std.proofs.lemmas.Bool.{cases_lt}
use Rattle.std.proofs.lemmas.Nat.{mul-add-lt, same_from_place, div-mul-add, mod-mul-add, div-add-mod', mod_below, div_below}
use Rattle.pic_num.specs.declared.axis.Axis.{Axis}
use Rattle.pic_num.specs.declared.axis.Axis.TheVariants.{X, Y, Z}
use Rattle.pic_num.specs.Space.{Triple, axis_number}
use Rattle.pic_num.proofs.AxisLaws.{axis_below, same_axis_number}
use Rattle.pic_block.specs.Cells.{IsWithin, count_of, index_of, cell_of, axis_of, place_of}

pub index_of_below : (n p : Triple) → IsWithin p n → index_of n p < count_of n
unfolding index_of
index_of_below n p h =
    let row : p.z * n.y + p.y < n.y * n.z = mul-add-lt p.z n.y p.y n.z h.z h.y in
    let all : (p.z * n.y + p.y) * n.x + p.x < n.x * (n.y * n.z) = mul-add-lt (p.z * n.y + p.y) n.x p.x (n.y * n.z) row h.x in
    omega arith

pub place_of_below : (n : Triple) (a : Axis) (p : Triple) → IsWithin p n → place_of n a p < 3 * count_of n
unfolding place_of
place_of_below n a p h =
    let all : axis_number a * count_of n + index_of n p < count_of n * 3 =
    mul-add-lt (axis_number a) (count_of n) (index_of n p) 3 (axis_below a) (index_of_below n p h) in
    omega arith

-- equal numbers have one cell
pub index_of_same : (n p q : Triple) → IsWithin p n → IsWithin q n → index_of n p ≡ index_of n q → p ≡ q
unfolding index_of
index_of_same n p q h k e =
    let outer = same_from_place (p.z * n.y + p.y) p.x (q.z * n.y + q.y) q.x n.x h.x k.x e in
    let inner = same_from_place p.z p.y q.z q.y n.y h.y k.y outer.0 in
    λ i. record { x = outer.1 i; y = inner.1 i; z = inner.0 i }

-- equal numbers have one axis and one cell
pub place_of_same : (n : Triple) (a : Axis) (p : Triple) (b : Axis) (q : Triple) → IsWithin p n → IsWithin q n
    → place_of n a p ≡ place_of n b q → (a ≡ b) × (p ≡ q)
unfolding place_of
place_of_same n a p b q h k e =
    let both = same_from_place (axis_number a) (index_of n p) (axis_number b) (index_of n q) (count_of n) (index_of_below n p h) (index_of_below n q k) e in
    (same_axis_number a b both.0, index_of_same n p q h k both.1)

-- the cell of a cell's number
pub cell_of-index_of : (n p : Triple) → IsWithin p n → cell_of n (index_of n p) ≡ p
unfolding index_of
cell_of-index_of n p h =
    let x : ((p.z * n.y + p.y) * n.x + p.x) % n.x ≡ p.x = mod-mul-add (p.z * n.y + p.y) n.x p.x h.x in
    let row : ((p.z * n.y + p.y) * n.x + p.x) / n.x ≡ p.z * n.y + p.y = div-mul-add (p.z * n.y + p.y) n.x p.x h.x in
    let y : ((p.z * n.y + p.y) * n.x + p.x) / n.x % n.y ≡ p.y = ap (λ (r : ℕ). r % n.y) row ∙ mod-mul-add p.z n.y p.y h.y in
    let z : ((p.z * n.y + p.y) * n.x + p.x) / n.x / n.y ≡ p.z = ap (λ (r : ℕ). r / n.y) row ∙ div-mul-add p.z n.y p.y h.y in
    λ i. record { x = x i; y = y i; z = z i }

-- the number of a number's cell
pub index_of-cell_of : (n : Triple) (i : ℕ) → index_of n (cell_of n i) ≡ i
unfolding index_of
index_of-cell_of n i =
    let row : i / n.x / n.y * n.y + i / n.x % n.y ≡ i / n.x = div-add-mod' (i / n.x) n.y in
    let all : i / n.x * n.x + i % n.x ≡ i = div-add-mod' i n.x in
    ap (λ (r : ℕ). r * n.x + i % n.x) row ∙ all

-- a number below the number of cells has a cell among them
pub cell_of_within : (n : Triple) (i : ℕ) → i < count_of n → IsWithin (cell_of n i) n
cell_of_within n i h =
    let x : 0 < n.x = grind arith in
    let y : 0 < n.y = grind arith in
    let row : i / n.x < n.y * n.z = div_below i n.x (n.y * n.z) x (omega arith) in
    let z : i / n.x / n.y < n.z = div_below (i / n.x) n.y n.z y (omega arith) in
    record { x = mod_below i n.x x; y = mod_below (i / n.x) n.y y; z = z }

pub axis_of-number : (a : Axis) → axis_of (axis_number a) ≡ a
axis_of-number X = refl
axis_of-number Y = refl
axis_of-number Z = refl

-- the axis of a place's number
pub axis_of-place_of : (n : Triple) (a : Axis) (p : Triple) → IsWithin p n → axis_of (place_of n a p / count_of n) ≡ a
unfolding place_of
axis_of-place_of n a p h =
    ap axis_of (div-mul-add (axis_number a) (count_of n) (index_of n p) (index_of_below n p h)) ∙ axis_of-number a

-- the cell of a place's number
pub cell_of-place_of : (n : Triple) (a : Axis) (p : Triple) → IsWithin p n → cell_of n (place_of n a p % count_of n) ≡ p
unfolding place_of
cell_of-place_of n a p h =
    ap (cell_of n) (mod-mul-add (axis_number a) (count_of n) (index_of n p) (index_of_below n p h)) ∙ cell_of-index_of n p h

pub axis_number-of : (i : ℕ) → i < 3 → axis_number (axis_of i) ≡ i
axis_number-of zero h = refl
axis_number-of (suc zero) h = refl
axis_number-of (suc (suc zero)) h = refl
axis_number-of (suc (suc (suc i))) h = absurd (omega arith)

-- the number of a number's place
pub place_of-number : (n : Triple) (i : ℕ) → i < 3 * count_of n → place_of n (axis_of (i / count_of n)) (cell_of n (i % count_of n)) ≡ i
unfolding place_of
place_of-number n i h =
    let count : 0 < count_of n = grind arith in
    let axis : i / count_of n < 3 = div_below i (count_of n) 3 count h in
    let number : axis_number (axis_of (i / count_of n)) ≡ i / count_of n = axis_number-of (i / count_of n) axis in
    let index : index_of n (cell_of n (i % count_of n)) ≡ i % count_of n = index_of-cell_of n (i % count_of n) in
    let all : i / count_of n * count_of n + i % count_of n ≡ i = div-add-mod' i (count_of n) in
    ap (λ (r : ℕ). r * count_of n + index_of n (cell_of n (i % count_of n))) number
    ∙ ap (λ (r : ℕ). i / count_of n * count_of n + r) index
    ∙ all

-- that place lies among the cells
pub place_within : (n : Triple) (i : ℕ) → i < 3 * count_of n → IsWithin (cell_of n (i % count_of n)) n
place_within n i h =
    let count : 0 < count_of n = grind arith in
    cell_of_within n (i % count_of n) (mod_below i (count_of n) count)

-- what holds of every place below a number, and of the place of that number, holds of every place
-- below the next
pub places_more : (n : Triple) (P : Axis → Triple → Type 0) (i : ℕ) (a : Axis) (p : Triple) → place_of n a p ≡ i → IsWithin p n
    → ((b : Axis) (q : Triple) → IsWithin q n → place_of n b q < i → P b q) → P a p
    → (b : Axis) (q : Triple) → IsWithin q n → place_of n b q < i + 1 → P b q
places_more n P i a p at w below here b q v h = elim (cases_lt (place_of n b q) i) [
  | inl less ↦ below b q v less
  | inr more ↦
      (let same : place_of n a p ≡ place_of n b q = omega arith in
      let both = place_of_same n a p b q w v same in
      let moved : P b p = subst (λ (c : Axis). P c p) both.0 here in
      subst (λ (r : Triple). P b r) both.1 moved)
]

-- the same of cells
pub cells_more : (n : Triple) (P : Triple → Type 0) (i : ℕ) (p : Triple) → index_of n p ≡ i → IsWithin p n
    → ((q : Triple) → IsWithin q n → index_of n q < i → P q) → P p
    → (q : Triple) → IsWithin q n → index_of n q < i + 1 → P q
cells_more n P i p at w below here q v h = elim (cases_lt (index_of n q) i) [
  | inl less ↦ below q v less
  | inr more ↦
      (let same : index_of n p ≡ index_of n q = omega arith in
      subst P (index_of_same n p q w v same) here)
]
