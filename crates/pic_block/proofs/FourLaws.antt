-- Four components on an axis round a cell: where they stand, and what adding to them makes.
use Rattle.std.proofs.Common.{◌≡◌, ℕ, ℤ, pos, ◌+◌, ◌*◌, ◌^◌, ◌<◌, ◌≤◌, ◌+ℤ◌, ◌-ℤ◌, ◌*ℤ◌, ◌≤ℤ◌, Bool, true, false, List}
use Rattle.std.proofs.Common.{length, slice_index_or, slice_set, unsigned_abs, inl, inr, refl, sym, ◌∙◌, ap, subst, arith}
use Rattle.std.specs.Prelude.{◌↔◌, IsTrue}
use Rattle.std.specs.Int.{w64, int_wrap}
use Rattle.std.proofs.lemmas.Bool.{cases_eq}
use Rattle.std.proofs.lemmas.Int.{ints, int_wrap_fits, int_wrap-add_left, int_wrap-add_right, fits_signed_from_abs}
use Rattle.std.proofs.lemmas.List.{get_or-set_same, get_or-set_other, length-set}
use Rattle.pic_num.specs.declared.axis.Axis.{Axis}
use Rattle.pic_num.specs.declared.axis.Axis.TheVariants.{X, Y, Z}
use Rattle.pic_num.specs.Sizes.{IsAtMost}
use Rattle.pic_num.specs.Space.{Triple, Spot, spot, axis_number}
use Rattle.pic_num.proofs.ProductLaws.{+ℤ-*ℤ}
use Rattle.pic_num.proofs.SizeLaws.{at_most_more, codes, code_at_most}
use Rattle.pic_block.specs.Cells.{count_of, index_of, place_of}
use Rattle.pic_block.specs.Block.{InZone, inner_of}
use Rattle.pic_block.specs.BlockLayers.{NumbersAtMost}
use Rattle.pic_block.specs.Fours.{IsBase, number_from, base_number, step_by, added_in, most_carried, most_of_weight, most_of_four}
use Rattle.pic_block.specs.Rows.{step_of, lifted}
use Rattle.pic_block.specs.declared.base.Base.{Base}
use Rattle.pic_block.proofs.BlockLaws.{inner_within}
use Rattle.pic_block.proofs.BlockLayerLaws.{sums_small}
use Rattle.pic_block.proofs.CellLaws.{place_of_below}

-- the number of the place of the component on an axis at a cell, were the zone to have it
abbrev pub number_on : Spot → Triple → Axis → Spot → ℤ
number_on low n a c = number_from low n c +ℤ pos (axis_number a) *ℤ (pos n.x *ℤ pos n.y *ℤ pos n.z)

above_is : (low c : ℤ) → low ≤ℤ c → c -ℤ low ≡ pos (unsigned_abs (c -ℤ low))
above_is low c h = omega (arith, ints)

-- where the zone has it, that is its place's
pub number_is : (low : Spot) (n : Triple) (a : Axis) (c : Spot) → InZone low n c → number_on low n a c ≡ pos (place_of n a (inner_of low c))
unfolding place_of index_of
number_is low n a c h =
    let p = inner_of low c in
    let x = above_is low.x c.x h.x_low in
    let y = above_is low.y c.y h.y_low in
    let z = above_is low.z c.z h.z_low in
    let same : p.z * (n.x * n.y) + p.y * n.x + p.x + axis_number a * (n.x * n.y * n.z) ≡ axis_number a * (n.x * n.y * n.z) + ((p.z * n.y + p.y) * n.x + p.x) =
    omega arith in
    (λ i. z i *ℤ (pos n.x *ℤ pos n.y) +ℤ y i *ℤ pos n.x +ℤ x i +ℤ pos (axis_number a) *ℤ (pos n.x *ℤ pos n.y *ℤ pos n.z))
    ∙ ap pos same

over_one : (c low : ℤ) → c +ℤ pos 1 -ℤ low ≡ (c -ℤ low) +ℤ pos 1
over_one c low = omega (arith, ints)

one_more : (d m : ℤ) → (d +ℤ pos 1) *ℤ m ≡ d *ℤ m +ℤ m
one_more d m = let e = +ℤ-*ℤ d (pos 1) m in omega (arith, ints, e)

more_x : (z y d r : ℤ) → z +ℤ y +ℤ (d +ℤ pos 1) +ℤ r ≡ (z +ℤ y +ℤ d +ℤ r) +ℤ pos 1
more_x z y d r = omega (arith, ints)

more_y : (z d m x r : ℤ) → z +ℤ (d +ℤ pos 1) *ℤ m +ℤ x +ℤ r ≡ (z +ℤ d *ℤ m +ℤ x +ℤ r) +ℤ m
more_y z d m x r = let e = one_more d m in omega (arith, ints, e)

more_z : (d m y x r : ℤ) → (d +ℤ pos 1) *ℤ m +ℤ y +ℤ x +ℤ r ≡ (d *ℤ m +ℤ y +ℤ x +ℤ r) +ℤ m
more_z d m y x r = let e = one_more d m in omega (arith, ints, e)

-- the number of the next cell up an axis is a step further
pub number_lifted : (low : Spot) (n : Triple) (a g : Axis) (c : Spot) → number_on low n a (lifted g c) ≡ number_on low n a c +ℤ pos (step_of n g)
number_lifted low n a X c =
    (λ i. (c.z -ℤ low.z) *ℤ (pos n.x *ℤ pos n.y) +ℤ (c.y -ℤ low.y) *ℤ pos n.x +ℤ over_one c.x low.x i +ℤ pos (axis_number a) *ℤ (pos n.x *ℤ pos n.y *ℤ pos n.z))
    ∙ more_x ((c.z -ℤ low.z) *ℤ (pos n.x *ℤ pos n.y)) ((c.y -ℤ low.y) *ℤ pos n.x) (c.x -ℤ low.x) (pos (axis_number a) *ℤ (pos n.x *ℤ pos n.y *ℤ pos n.z))
number_lifted low n a Y c =
    (λ i. (c.z -ℤ low.z) *ℤ (pos n.x *ℤ pos n.y) +ℤ over_one c.y low.y i *ℤ pos n.x +ℤ (c.x -ℤ low.x) +ℤ pos (axis_number a) *ℤ (pos n.x *ℤ pos n.y *ℤ pos n.z))
    ∙ more_y ((c.z -ℤ low.z) *ℤ (pos n.x *ℤ pos n.y)) (c.y -ℤ low.y) (pos n.x) (c.x -ℤ low.x) (pos (axis_number a) *ℤ (pos n.x *ℤ pos n.y *ℤ pos n.z))
number_lifted low n a Z c =
    (λ i. over_one c.z low.z i *ℤ (pos n.x *ℤ pos n.y) +ℤ (c.y -ℤ low.y) *ℤ pos n.x +ℤ (c.x -ℤ low.x) +ℤ pos (axis_number a) *ℤ (pos n.x *ℤ pos n.y *ℤ pos n.z))
    ∙ more_z (c.z -ℤ low.z) (pos n.x *ℤ pos n.y) ((c.y -ℤ low.y) *ℤ pos n.x) (c.x -ℤ low.x) (pos (axis_number a) *ℤ (pos n.x *ℤ pos n.y *ℤ pos n.z))

-- a sum in 64 bits of numbers in 64 bits
pub sums_wrap : (y z m k : ℤ) → y ≡ int_wrap w64 m → z ≡ int_wrap w64 k → int_wrap w64 (y +ℤ z) ≡ int_wrap w64 (m +ℤ k)
sums_wrap y z m k h e = (λ i. int_wrap w64 (h i +ℤ e i)) ∙ int_wrap-add_left w64 m (int_wrap w64 k) ∙ int_wrap-add_right w64 m k

-- what a base tells of its cell
once : (n k : ℤ) → n +ℤ k ≡ n +ℤ pos 1 *ℤ k
once n k = omega (arith, ints)

twice : (n k : ℤ) → n +ℤ k +ℤ k ≡ n +ℤ pos 2 *ℤ k
twice n k = omega (arith, ints)

never : (n k : ℤ) → n ≡ n +ℤ pos 0 *ℤ k
never n k = omega (arith, ints)

pub first_is : (low : Spot) (n : Triple) (b : Base) (a : Axis) → IsBase low n b → base_number b a ≡ int_wrap w64 (number_on low n a (spot b.cell))
first_is low n b X h = h.here ∙ ap (int_wrap w64) (never (number_from low n (spot b.cell)) (pos n.x *ℤ pos n.y *ℤ pos n.z))
first_is low n b Y h =
    let all = pos n.x *ℤ pos n.y *ℤ pos n.z in
    let from = number_from low n (spot b.cell) in
    sums_wrap b.here b.count from all h.here h.count ∙ ap (int_wrap w64) (once from all)
first_is low n b Z h =
    let all = pos n.x *ℤ pos n.y *ℤ pos n.z in
    let from = number_from low n (spot b.cell) in
    sums_wrap (int_wrap w64 (b.here +ℤ b.count)) b.count (from +ℤ all) all (sums_wrap b.here b.count from all h.here h.count) h.count
    ∙ ap (int_wrap w64) (twice from all)

pub step_is : (low : Spot) (n : Triple) (b : Base) (g : Axis) → IsBase low n b → step_by b g ≡ int_wrap w64 (pos (step_of n g))
step_is low n b X h = sym (int_wrap_fits w64 (pos 1) (fits_signed_from_abs w64 (pos 1) (omega arith)))
step_is low n b Y h = h.row
step_is low n b Z h = h.layer

-- a step further, in 64 bits
pub up_is : (low : Spot) (n : Triple) (b : Base) (a g : Axis) (c : Spot) (z : ℤ) → IsBase low n b → z ≡ int_wrap w64 (number_on low n a c)
    → int_wrap w64 (z +ℤ step_by b g) ≡ int_wrap w64 (number_on low n a (lifted g c))
up_is low n b a g c z h e =
    sums_wrap z (step_by b g) (number_on low n a c) (pos (step_of n g)) e (step_is low n b g h)
    ∙ ap (int_wrap w64) (sym (number_lifted low n a g c))

-- where the zone has the cell, the number in 64 bits is that of the place
pub place_is : (low : Spot) (n : Triple) (a : Axis) (c : Spot) (z : ℤ) → InZone low n c → z ≡ int_wrap w64 (number_on low n a c)
    → place_of n a (inner_of low c) < 2 ^ 60 → z ≡ pos (place_of n a (inner_of low c))
place_is low n a c z inside e few =
    let p = place_of n a (inner_of low c) in
    e ∙ ap (int_wrap w64) (number_is low n a c inside) ∙ int_wrap_fits w64 (pos p) (fits_signed_from_abs w64 (pos p) (omega (arith, few)))

-- where a component stands that a zone has where it is found
pub record StandsAt (n : Triple) (found : Bool) (q : ℕ) (z : ℤ) : Type 0 where
  pub least : IsTrue found → pos 0 ≤ℤ z
  pub below : IsTrue found → unsigned_abs z < 3 * count_of n
  pub same : IsTrue found → unsigned_abs z ≡ q

at_place : (z : ℤ) (p : ℕ) → z ≡ pos p → (pos 0 ≤ℤ z) × (unsigned_abs z ≡ p)
at_place z p e = (omega (arith, ints, e), ap unsigned_abs e)

pub stands_at : (low : Spot) (n : Triple) (a : Axis) (c : Spot) (found : Bool) (z : ℤ) → IsTrue found ↔ InZone low n c
    → z ≡ int_wrap w64 (number_on low n a c) → 3 * count_of n < 2 ^ 60 → StandsAt n found (place_of n a (inner_of low c)) z
stands_at low n a c found z has e few =
    let p = place_of n a (inner_of low c) in
    let below : IsTrue found → p < 3 * count_of n = λ yes. place_of_below n a (inner_of low c) (inner_within low n c (has.0 yes)) in
    let there : IsTrue found → (pos 0 ≤ℤ z) × (unsigned_abs z ≡ p) =
    λ yes. let less = below yes in at_place z p (place_is low n a c z (has.0 yes) e (omega (arith, few, less))) in
    record {
      least = λ yes. (there yes).0;
      below = λ yes. subst (λ (k : ℕ). k < 3 * count_of n) (sym (there yes).1) (below yes);
      same = λ yes. (there yes).1;
    }

-- what is carried times a weight is of the size that is added
pub carried_small : (by weight : ℤ) → IsAtMost by most_carried → IsAtMost weight most_of_weight → IsAtMost (by *ℤ weight) most_of_four
carried_small by weight h k = code_at_most (search codes depth 8) tt

-- a bound of the numbers of a list, made wider
pub are_at_most_more : (xs : List ℤ) (m n : ℕ) → m ≤ n → NumbersAtMost m xs → NumbersAtMost n xs
are_at_most_more xs m n more small = record { at_most = λ k. at_most_more (slice_index_or xs k (pos 0)) m n more (small.at_most k) }

-- a number added at a place of a list: it can be told otherwise, where it is found,
pub added_in_at : (found : Bool) (xs : List ℤ) (p q : ℕ) (v : ℤ) → (IsTrue found → p ≡ q) → added_in found xs p v ≡ added_in found xs q v
unfolding added_in
added_in_at true xs p q v same = let e = same refl in ap (λ (k : ℕ). slice_set xs k (slice_index_or xs k (pos 0) +ℤ v)) e
added_in_at false xs p q v same = refl

-- the list keeps its length,
pub length-added_in : (found : Bool) (xs : List ℤ) (p : ℕ) (v : ℤ) → length (added_in found xs p v) ≡ length xs
unfolding added_in
length-added_in true xs p v = length-set xs p (slice_index_or xs p (pos 0) +ℤ v)
length-added_in false xs p v = refl

-- and its numbers grow by no more
pub added_in_small : (found : Bool) (xs : List ℤ) (p : ℕ) (v : ℤ) (m n : ℕ) → (IsTrue found → p < length xs) → IsAtMost v n → NumbersAtMost m xs
    → NumbersAtMost (m + n) (added_in found xs p v)
unfolding added_in
added_in_small false xs p v m n below small room =
    record { at_most = λ k. at_most_more (slice_index_or xs k (pos 0)) m (m + n) (omega arith) (room.at_most k) }
added_in_small true xs p v m n below small room = record {
  at_most = λ k. elim (cases_eq k p) [
    | inl same ↦
        (let there : slice_index_or (slice_set xs p (slice_index_or xs p (pos 0) +ℤ v)) p (pos 0) ≡ slice_index_or xs p (pos 0) +ℤ v =
        get_or-set_same xs p (slice_index_or xs p (pos 0) +ℤ v) (pos 0) (below refl) in
        let read : slice_index_or (slice_set xs p (slice_index_or xs p (pos 0) +ℤ v)) k (pos 0) ≡ slice_index_or xs p (pos 0) +ℤ v =
        ap (λ (j : ℕ). slice_index_or (slice_set xs p (slice_index_or xs p (pos 0) +ℤ v)) j (pos 0)) same ∙ there in
        subst (λ (y : ℤ). IsAtMost y (m + n)) (sym read) (sums_small (slice_index_or xs p (pos 0)) v m n (room.at_most p) small))
    | inr other ↦
        (let read = get_or-set_other xs p k (slice_index_or xs p (pos 0) +ℤ v) (pos 0) other in
        subst (λ (y : ℤ). IsAtMost y (m + n)) (sym read) (at_most_more (slice_index_or xs k (pos 0)) m (m + n) (omega arith) (room.at_most k)))
  ];
}
