-- Layers of a block that are laid over another: where they are, how large they are, and what they add.
use Rattle.std.proofs.Common.{◌≡◌, ℕ, ◌+◌, ◌*◌, ◌/◌, ◌%◌, ◌<◌, ◌≤◌, ◌&&◌, inl, inr, Bool, true, false}
use Rattle.std.proofs.Common.{cond, List, length, get_or, replicate, refl, sym, ◌∙◌, ap, subst, arith}
use Rattle.std.proofs.Math.IntN.{ℤ, pos, ◌+ℤ◌, ◌-ℤ◌}
use Rattle.std.specs.Prelude.{unsigned_abs}
use Rattle.std.proofs.lemmas.Bool.{cases_lt, false≢true}
use Rattle.std.proofs.lemmas.Bool.Decides.{nat_tests}
use Rattle.std.proofs.lemmas.Int.{ints}
use Rattle.std.proofs.lemmas.List.{get_or_past}
use Rattle.pic_num.specs.declared.axis.Axis.{Axis}
use Rattle.pic_num.specs.Sizes.{IsAtMost}
use Rattle.pic_num.specs.Space.{Triple, Spot}
use Rattle.pic_block.specs.Block.{BlockValues, InZone, AllAtMost, inner_at, edge_at}
use Rattle.pic_block.specs.BlockLayers.{AddsLayers, NumbersAtMost, is_from, is_over, lowered_by, layer_of}
use Rattle.pic_block.specs.Cells.{IsWithin, count_of, axis_of, cell_of, place_of}
use Rattle.pic_block.proofs.CellLaws.{place_of-number, place_within}
use Rattle.pic_block.proofs.ShapeLaws.{zero_read}

-- a block's numbers are small where its components are,
pub numbers_small : (n : Triple) (most : ℕ) (xs : List ℤ) → length xs ≡ 3 * count_of n
    → ((a : Axis) (p : Triple) → IsWithin p n → IsAtMost (get_or xs (place_of n a p) (pos 0)) most) → NumbersAtMost most xs
numbers_small n most xs long small = record {
  at_most = λ k. elim (cases_lt k (3 * count_of n)) [
    | inl below ↦ subst (λ (j : ℕ). IsAtMost (get_or xs j (pos 0)) most) (place_of-number n k below)
        (small (axis_of (k / count_of n)) (cell_of n (k % count_of n)) (place_within n k below))
    | inr past ↦ subst (λ (v : ℤ). IsAtMost v most) (sym (get_or_past xs k (pos 0) (omega (arith, past, long)))) (record { size = omega (arith, ints) })
  ];
}

-- the cell p is over layers that are laid so far from the lowest
pub record IsOver (o n p : Triple) : Type 0 where
  pub above_x : o.x ≤ p.x
  pub above_y : o.y ≤ p.y
  pub above_z : o.z ≤ p.z
  pub below_x : p.x < o.x + n.x
  pub below_y : p.y < o.y + n.y
  pub below_z : p.z < o.z + n.z

over_on : (o n q : ℕ) → is_from o n q ≡ true → (o ≤ q) × (q < o + n)
over_on o n q h = grind (arith, nat_tests)

on_over : (o n q : ℕ) → o ≤ q → q < o + n → is_from o n q ≡ true
on_over o n q h k = grind (arith, nat_tests)

both_true : (x y : Bool) → (x && y) ≡ true → (x ≡ true) × (y ≡ true)
both_true true y h = (refl, h)
both_true false y h = absurd (false≢true h)

pub over_tells : (o n p : Triple) → is_over o n p ≡ true → IsOver o n p
unfolding is_over
over_tells o n p h =
    let first = both_true (is_from o.x n.x p.x) (is_from o.y n.y p.y && is_from o.z n.z p.z) h in
    let second = both_true (is_from o.y n.y p.y) (is_from o.z n.z p.z) first.1 in
    let x = over_on o.x n.x p.x first.0 in
    let y = over_on o.y n.y p.y second.0 in
    let z = over_on o.z n.z p.z second.1 in
    record { above_x = x.0; above_y = y.0; above_z = z.0; below_x = x.1; below_y = y.1; below_z = z.1 }

pub tells_over : (o n p : Triple) → IsOver o n p → is_over o n p ≡ true
unfolding is_over
tells_over o n p h =
    let x = on_over o.x n.x p.x h.above_x h.below_x in
    let y = on_over o.y n.y p.y h.above_y h.below_y in
    let z = on_over o.z n.z p.z h.above_z h.below_z in
    λ i. x i && (y i && z i)

-- what layers add where they are, and where they aren't
pub layer_over : (n : Triple) (xs : List ℤ) (o : Triple) (a : Axis) (p : Triple) → is_over o n p ≡ true
    → layer_of n xs o a p ≡ get_or xs (place_of n a (lowered_by o p)) (pos 0)
unfolding layer_of
layer_over n xs o a p over = ap (λ (b : Bool). cond b (get_or xs (place_of n a (lowered_by o p)) (pos 0)) (pos 0)) over

pub layer_off : (n : Triple) (xs : List ℤ) (o : Triple) (a : Axis) (p : Triple) → is_over o n p ≡ false → layer_of n xs o a p ≡ pos 0
unfolding layer_of
layer_off n xs o a p off = ap (λ (b : Bool). cond b (get_or xs (place_of n a (lowered_by o p)) (pos 0)) (pos 0)) off

-- nothing added
pub add_none : (v w : ℤ) → w ≡ pos 0 → v ≡ v +ℤ w
add_none v w e = omega (arith, ints, e)

pub sums_small : (u v : ℤ) (m n : ℕ) → IsAtMost u m → IsAtMost v n → IsAtMost (u +ℤ v) (m + n)
sums_small u v m n h k = let p = h.size in let q = k.size in record { size = omega (arith, ints, p, q) }

-- values that are all 0 add nothing, wherever they are laid
pub none_added : (b from : BlockValues) (o : Triple) → ((k : ℕ) → get_or from.values k (pos 0) ≡ pos 0) → AddsLayers b b from o
none_added b from o zeros = record { at = λ a p w. add_none (inner_at b a p) (layer_of from.size from.values o a p) (off a p (is_over o from.size p) refl) }
  where
    off : (a : Axis) (p : Triple) (t : Bool) → is_over o from.size p ≡ t → layer_of from.size from.values o a p ≡ pos 0
    off a p true e = layer_over from.size from.values o a p e ∙ zeros (place_of from.size a (lowered_by o p))
    off a p false e = layer_off from.size from.values o a p e

-- as those of a blank block, and of one without cells
pub zeros_add_none : (b from : BlockValues) (o : Triple) → from.values ≡ replicate (3 * count_of from.size) (pos 0) → AddsLayers b b from o
zeros_add_none b from o zeros =
    none_added b from o (λ k. ap (λ (xs : List ℤ). get_or xs k (pos 0)) zeros ∙ zero_read (3 * count_of from.size) k)

pub no_layers : (b from : BlockValues) (o : Triple) → length from.values ≡ 0 → AddsLayers b b from o
no_layers b from o none = none_added b from o (λ k. get_or_past from.values k (pos 0) (omega (arith, none)))

-- the cell that lies p above the lowest of a block
abbrev pub cell_in : BlockValues → Triple → Spot
cell_in b p = record { x = b.low.x +ℤ pos p.x; y = b.low.y +ℤ pos p.y; z = b.low.z +ℤ pos p.z }

pub in_zone : (b : BlockValues) (p : Triple) → IsWithin p b.size → InZone b.low b.size (cell_in b p)
in_zone b p w = record {
  x_low = omega (arith, ints);
  x_high = omega (arith, ints, w.x);
  y_low = omega (arith, ints);
  y_high = omega (arith, ints, w.y);
  z_low = omega (arith, ints);
  z_high = omega (arith, ints, w.z);
}

pub inner_edge : (b : BlockValues) (a : Axis) (p : Triple) → inner_at b a p ≡ edge_at b a (cell_in b p)
inner_edge b a p =
    let x : p.x ≡ unsigned_abs (b.low.x +ℤ pos p.x -ℤ b.low.x) = omega (arith, ints) in
    let y : p.y ≡ unsigned_abs (b.low.y +ℤ pos p.y -ℤ b.low.y) = omega (arith, ints) in
    let z : p.z ≡ unsigned_abs (b.low.z +ℤ pos p.z -ℤ b.low.z) = omega (arith, ints) in λ t. inner_at b a (record { x = x t; y = y t; z = z t })

-- a block's components are small where its edges are,
pub inner_small : (b : BlockValues) (most : ℕ) (a : Axis) (p : Triple) → AllAtMost most b → IsWithin p b.size → IsAtMost (inner_at b a p) most
inner_small b most a p small w = subst (λ (v : ℤ). IsAtMost v most) (sym (inner_edge b a p)) (small.at_most a (cell_in b p) (in_zone b p w))

-- and so are all its numbers
pub all_numbers : (b : BlockValues) (most : ℕ) (xs : List ℤ) → xs ≡ b.values → length b.values ≡ 3 * count_of b.size → AllAtMost most b → NumbersAtMost most xs
all_numbers b most xs same long small =
    subst (NumbersAtMost most) (sym same) (numbers_small b.size most b.values long (λ a p w. inner_small b most a p small w))
