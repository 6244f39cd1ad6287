-- The numbers of places that follow each other in a box, and the place of a number.
use Rattle.std.proofs.Common.{◌≡◌, ℕ, ◌+◌, ◌*◌, ◌<◌, sym, ◌∙◌, ap, subst, arith}
use Rattle.pic_num.specs.declared.axis.Axis.{Axis}
use Rattle.pic_num.specs.declared.axis.Axis.TheVariants.{X, Y, Z}
use Rattle.pic_num.specs.Space.{Triple, axis_number, next_axis}
use Rattle.pic_block.specs.Cells.{IsWithin, count_of, index_of, place_of}

-- the component on an axis at the cell p is the place of the number i
pub record IsPlace (n : Triple) (i : ℕ) (a : Axis) (p : Triple) : Type 0 where
  pub within : i < 3 * count_of n → IsWithin p n
  pub number : i < 3 * count_of n → place_of n a p ≡ i

-- the number of the next place at the end of a row,
pub row_end : (n : Triple) (a : Axis) (p : Triple) → p.x + 1 ≡ n.x
    → place_of n a (record { x = 0; y = p.y + 1; z = p.z }) ≡ place_of n a p + 1
unfolding place_of index_of
row_end n a p x = omega arith

-- of a layer,
pub layer_end : (n : Triple) (a : Axis) (p : Triple) → p.x + 1 ≡ n.x → p.y + 1 ≡ n.y
    → place_of n a (record { x = 0; y = 0; z = p.z + 1 }) ≡ place_of n a p + 1
unfolding place_of index_of
layer_end n a p x y =
    let row : (p.y + 1) * n.x ≡ n.y * n.x = ap (λ (r : ℕ). r * n.x) y in
    omega arith

last_index : (n p : Triple) → p.x + 1 ≡ n.x → p.y + 1 ≡ n.y → p.z + 1 ≡ n.z → index_of n p + 1 ≡ count_of n
unfolding index_of
last_index n p x y z =
    let row : (p.y + 1) * n.x ≡ n.y * n.x = ap (λ (r : ℕ). r * n.x) y in
    let layer : (p.z + 1) * (n.x * n.y) ≡ n.z * (n.x * n.y) = ap (λ (r : ℕ). r * (n.x * n.y)) z in
    omega arith

-- and of an axis
pub axis_end : (n : Triple) (a : Axis) (p : Triple) → p.x + 1 ≡ n.x → p.y + 1 ≡ n.y → p.z + 1 ≡ n.z
    → place_of n a p + 1 < 3 * count_of n
    → place_of n (next_axis a) (record { x = 0; y = 0; z = 0 }) ≡ place_of n a p + 1
unfolding place_of index_of
axis_end n X p x y z h = let last = last_index n p x y z in omega (arith, last)
axis_end n Y p x y z h = let last = last_index n p x y z in omega (arith, last)
axis_end n Z p x y z h = let last = last_index n p x y z in absurd (omega (arith, last, h))

lowest_within : (n : Triple) → 0 < 3 * count_of n → IsWithin (record { x = 0; y = 0; z = 0 }) n
lowest_within n h = record { x = grind arith; y = grind arith; z = grind arith }

-- the first place of a box,
pub first_place : (n : Triple) (a : Axis) (p : Triple) → axis_number a ≡ 0 → p ≡ record { x = 0; y = 0; z = 0 } → IsPlace n 0 a p
unfolding place_of index_of
first_place n a p axis cell =
    let number : place_of n a p ≡ 0 * count_of n + ((0 * n.y + 0) * n.x + 0) =
    λ i. axis i * count_of n + (((cell i).z * n.y + (cell i).y) * n.x + (cell i).x) in
    record {
      within = λ h. subst (λ (q : Triple). IsWithin q n) (sym cell) (lowest_within n h);
      number = λ h. omega (arith, number);
    }

-- and the next
pub next_place : (n : Triple) (i : ℕ) (a : Axis) (p : Triple) (b : Axis) (q : Triple) → IsPlace n i a p → i < 3 * count_of n → IsWithin q n
    → (place_of n a p + 1 < 3 * count_of n → place_of n b q ≡ place_of n a p + 1) → IsPlace n (i + 1) b q
next_place n i a p b q place below within next =
    let here : place_of n a p ≡ i = place.number below in
    record { within = λ h. within; number = λ h. next (subst (λ (k : ℕ). k + 1 < 3 * count_of n) (sym here) h) ∙ ap (λ (k : ℕ). k + 1) here }
