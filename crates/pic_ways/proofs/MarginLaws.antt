-- Blocks over zones, whose edges elsewhere count as 0, and what of them wraps to the edges of the grid.
use Rattle.std.proofs.Common.{◌≡◌, ℕ, ◌<◌, ◌≤◌, Bool, true, false, cond, inl, inr, sym, ap, subst, slice_index_or, ◌∙◌, arith}
use Rattle.std.proofs.Math.IntN.{ℤ, pos, ◌+ℤ◌, ◌-ℤ◌}
use Rattle.std.specs.Prelude.{◌≤ℤ◌, ◌<ℤ◌, ◌&&◌, int_le, int_lt, unsigned_abs}
use Rattle.std.proofs.lemmas.Bool.{cases_Bool, and_parts}
use Rattle.std.proofs.lemmas.Int.{ints, to_z_pos}
use mir.Syntax.{w32}
use mir.Val.{to_z, of_z}
use Rattle.pic_num.specs.declared.axis.Axis.{Axis}
use Rattle.pic_num.specs.Sizes.{IsAtMost}
use Rattle.pic_num.specs.Space.{Triple, Spot, unwrapped}
use Rattle.pic_num.proofs.SizeLaws.{codes, code_is}
use Rattle.pic_block.specs.Block.{BlockValues, InZone, inner_of, inner_at, edge_at}
use Rattle.pic_block.specs.Cells.{IsWithin, place_of}
use Rattle.pic_grid.specs.Current.{sum_images, wrapped}
use Rattle.pic_split.proofs.ImageLaws.{images_zero}
use Rattle.pic_ways.specs.Margin.{has_layer, has_cell, edge_or_zero}

-- a test has one answer
pub one_answer : {t : Bool} → t ≡ true → t ≡ false → ⊥
one_answer {t} affirmed denied = cc

-- The tests say what they mean.

layer_true : (low : ℤ) (size : ℕ) (c : ℤ) → low ≤ℤ c → c <ℤ (low +ℤ pos size) → has_layer low size c ≡ true
unfolding has_layer
layer_true low size c h k = grind (arith, ints)

layer_low : (low : ℤ) (size : ℕ) (c : ℤ) → has_layer low size c ≡ true → low ≤ℤ c
unfolding has_layer
layer_low low size c h = let parts = and_parts (int_le low c) (int_lt c (low +ℤ pos size)) h in let least = parts.0 in grind (arith, ints, least)

layer_high : (low : ℤ) (size : ℕ) (c : ℤ) → has_layer low size c ≡ true → c <ℤ (low +ℤ pos size)
unfolding has_layer
layer_high low size c h = let parts = and_parts (int_le low c) (int_lt c (low +ℤ pos size)) h in let most = parts.1 in grind (arith, ints, most)

cell_true : (low : Spot) (size : Triple) (c : Spot) → InZone low size c → has_cell low size c ≡ true
cell_true low size c h =
    rw (layer_true low.x size.x c.x h.x_low h.x_high, layer_true low.y size.y c.y h.y_low h.y_high, layer_true low.z size.z c.z h.z_low h.z_high)

cell_in : (low : Spot) (size : Triple) (c : Spot) → has_cell low size c ≡ true → InZone low size c
cell_in low size c h =
    let first = and_parts (has_layer low.x size.x c.x) (has_layer low.y size.y c.y && has_layer low.z size.z c.z) h in
    let second = and_parts (has_layer low.y size.y c.y) (has_layer low.z size.z c.z) first.1 in
    record {
      x_low = layer_low low.x size.x c.x first.0;
      x_high = layer_high low.x size.x c.x first.0;
      y_low = layer_low low.y size.y c.y second.0;
      y_high = layer_high low.y size.y c.y second.0;
      z_low = layer_low low.z size.z c.z second.1;
      z_high = layer_high low.z size.z c.z second.1;
    }

-- An edge of the zone, and any other.

pub edge_inside : (b : BlockValues) (a : Axis) (c : Spot) → InZone b.low b.size c → edge_or_zero b a c ≡ edge_at b a c
unfolding edge_or_zero
edge_inside b a c h = ap (λ (t : Bool). cond t (edge_at b a c) (pos 0)) (cell_true b.low b.size c h)

pub edge_outside : (b : BlockValues) (a : Axis) (c : Spot) → (InZone b.low b.size c → ⊥) → edge_or_zero b a c ≡ pos 0
unfolding edge_or_zero
edge_outside b a c out = elim (cases_Bool (has_cell b.low b.size c)) [
  | inl has ↦ absurd (out (cell_in b.low b.size c has))
  | inr has_not ↦ ap (λ (t : Bool). cond t (edge_at b a c) (pos 0)) has_not
]

-- a block that at its edges has f, which is 0 elsewhere, has f everywhere
pub edges_are : (b : BlockValues) (f : Axis → Spot → ℤ) → ((a : Axis) (c : Spot) → InZone b.low b.size c → edge_at b a c ≡ f a c)
    → ((a : Axis) (c : Spot) → (InZone b.low b.size c → ⊥) → f a c ≡ pos 0) → (a : Axis) (c : Spot) → edge_or_zero b a c ≡ f a c
edges_are b f inside outside a c = elim (cases_Bool (has_cell b.low b.size c)) [
  | inl has ↦ (let h = cell_in b.low b.size c has in edge_inside b a c h ∙ inside a c h)
  | inr has_not ↦ (let out : InZone b.low b.size c → ⊥ = (λ h. one_answer (cell_true b.low b.size c h) has_not) in
      edge_outside b a c out ∙ sym (outside a c out))
]

-- The index of a cell as the code holds it, and its images one box down and up.

pub own_index : (i : ℕ) → i ≤ 128 → to_z w32 i ≡ pos i
own_index i few = to_z_pos w32 i (omega (arith, few))

pub down_index : (i n : ℕ) → i ≤ 128 → n ≤ 128 → to_z w32 (of_z w32 (to_z w32 i -ℤ to_z w32 n)) ≡ pos i -ℤ pos n
down_index i n few most =
    let a : IsAtMost (pos i) 128 = record { size = few } in
    let b : IsAtMost (pos n) 128 = record { size = most } in
    let plain : to_z w32 (of_z w32 (pos i -ℤ pos n)) ≡ pos i -ℤ pos n = code_is (search codes depth 8) tt in
    (λ t. to_z w32 (of_z w32 (own_index i few t -ℤ own_index n most t))) ∙ plain

pub up_index : (i n : ℕ) → i ≤ 128 → n ≤ 128 → to_z w32 (of_z w32 (to_z w32 i +ℤ to_z w32 n)) ≡ pos i +ℤ pos n
up_index i n few most =
    let a : IsAtMost (pos i) 128 = record { size = few } in
    let b : IsAtMost (pos n) 128 = record { size = most } in
    let plain : to_z w32 (of_z w32 (pos i +ℤ pos n)) ≡ pos i +ℤ pos n = code_is (search codes depth 8) tt in
    (λ t. to_z w32 (of_z w32 (own_index i few t +ℤ own_index n most t))) ∙ plain

-- A block over the box alone wraps to itself.

box_images : (n : ℕ) (g : ℤ → ℤ) (i : ℕ) → i < n → ((j : ℤ) → j <ℤ pos 0 → g j ≡ pos 0) → ((j : ℤ) → pos n ≤ℤ j → g j ≡ pos 0)
    → sum_images n g i ≡ g (pos i)
unfolding sum_images
box_images n g i below under over =
    (λ t. under (pos i -ℤ pos n) (omega (arith, ints, below)) t +ℤ g (pos i) +ℤ over (pos i +ℤ pos n) (omega (arith, ints)) t)
    ∙ alone (g (pos i))
  where
    alone : (z : ℤ) → pos 0 +ℤ z +ℤ pos 0 ≡ z
    alone z = omega (arith, ints)

abbrev IsBox : Triple → BlockValues → Type 0
IsBox n b = (b.low ≡ record { x = pos 0; y = pos 0; z = pos 0 }) × (b.size ≡ n)

in_box : (n : Triple) (b : BlockValues) (c : Spot) → IsBox n b → InZone b.low b.size c
    → (pos 0 ≤ℤ c.x) × (c.x <ℤ pos n.x) × (pos 0 ≤ℤ c.y) × (c.y <ℤ pos n.y) × (pos 0 ≤ℤ c.z) × (c.z <ℤ pos n.z)
in_box n b c is h =
    let k : InZone (record { x = pos 0; y = pos 0; z = pos 0 }) n c =
    subst (λ (s : Triple). InZone (record { x = pos 0; y = pos 0; z = pos 0 }) s c) is.1 (subst (λ (l : Spot). InZone l b.size c) is.0 h) in
    (k.x_low, omega (arith, ints, k.x_high), k.y_low, omega (arith, ints, k.y_high), k.z_low, omega (arith, ints, k.z_high))

pub box_wraps : (n : Triple) (b : BlockValues) (a : Axis) (p : Triple) → b.low ≡ record { x = pos 0; y = pos 0; z = pos 0 } → b.size ≡ n → IsWithin p n
    → wrapped n (edge_or_zero b a) p ≡ edge_or_zero b a (unwrapped p)
unfolding wrapped
box_wraps n b a p low size within =
    let f = edge_or_zero b a in
    let is : IsBox n b = (low, size) in
    box_images n.z (λ z. sum_images n.y (λ y. sum_images n.x (λ x. f (record { x = x; y = y; z = z })) p.x) p.y) p.z within.z
    (λ j out. nothing n.y n.x (λ y x. f (record { x = x; y = y; z = j })) p.y p.x
    (λ y x. edge_outside b a (record { x = x; y = y; z = j }) (λ h. let k = in_box n b _ is h in let l = k.4 in omega (arith, ints, out, l))))
    (λ j out. nothing n.y n.x (λ y x. f (record { x = x; y = y; z = j })) p.y p.x
    (λ y x. edge_outside b a (record { x = x; y = y; z = j }) (λ h. let k = in_box n b _ is h in let l = k.5 in omega (arith, ints, out, l))))
    ∙ box_images n.y (λ y. sum_images n.x (λ x. f (record { x = x; y = y; z = pos p.z })) p.x) p.y within.y
    (λ j out. nothing_on n.x (λ x. f (record { x = x; y = j; z = pos p.z })) p.x
    (λ x. edge_outside b a (record { x = x; y = j; z = pos p.z }) (λ h. let k = in_box n b _ is h in let l = k.2 in omega (arith, ints, out, l))))
    (λ j out. nothing_on n.x (λ x. f (record { x = x; y = j; z = pos p.z })) p.x
    (λ x. edge_outside b a (record { x = x; y = j; z = pos p.z }) (λ h. let k = in_box n b _ is h in let l = k.3 in omega (arith, ints, out, l))))
    ∙ box_images n.x (λ x. f (record { x = x; y = pos p.y; z = pos p.z })) p.x within.x
    (λ j out. edge_outside b a (record { x = j; y = pos p.y; z = pos p.z }) (λ h. let k = in_box n b _ is h in let l = k.0 in omega (arith, ints, out, l)))
    (λ j out. edge_outside b a (record { x = j; y = pos p.y; z = pos p.z }) (λ h. let k = in_box n b _ is h in let l = k.1 in omega (arith, ints, out, l)))
  where
    nothing_on : (m : ℕ) (g : ℤ → ℤ) (i : ℕ) → ((j : ℤ) → g j ≡ pos 0) → sum_images m g i ≡ pos 0
    nothing_on m g i zero = (λ t. sum_images m (λ j. zero j t) i) ∙ images_zero m i

    nothing : (m k : ℕ) (g : ℤ → ℤ → ℤ) (i l : ℕ) → ((y x : ℤ) → g y x ≡ pos 0) → sum_images m (λ y. sum_images k (g y) l) i ≡ pos 0
    nothing m k g i l zero = nothing_on m (λ y. sum_images k (g y) l) i (λ y. nothing_on k (g y) l (zero y))

-- its edges are those of a lattice whose values it has
pub box_edge : (n : Triple) (b : BlockValues) (a : Axis) (p : Triple) → b.low ≡ record { x = pos 0; y = pos 0; z = pos 0 } → b.size ≡ n → IsWithin p n
    → edge_or_zero b a (unwrapped p) ≡ inner_at b a p
box_edge n b a p low size within =
    let zone : InZone (record { x = pos 0; y = pos 0; z = pos 0 }) n (unwrapped p) = record {
      x_low = omega (arith, ints);
      x_high = omega (arith, ints, within.x);
      y_low = omega (arith, ints);
      y_high = omega (arith, ints, within.y);
      z_low = omega (arith, ints);
      z_high = omega (arith, ints, within.z);
    } in
    let here : InZone b.low b.size (unwrapped p) =
    subst (λ (l : Spot). InZone l b.size (unwrapped p)) (sym low)
    (subst (λ (s : Triple). InZone (record { x = pos 0; y = pos 0; z = pos 0 }) s (unwrapped p)) (sym size) zone) in
    edge_inside b a (unwrapped p) here
    ∙ ap (λ (l : Spot). slice_index_or b.values (place_of b.size a (inner_of l (unwrapped p))) (pos 0)) low
    ∙ ap (λ (q : Triple). slice_index_or b.values (place_of b.size a q) (pos 0)) (λ t. record { x = same p.x t; y = same p.y t; z = same p.z t })
  where
    same : (i : ℕ) → unsigned_abs (pos i -ℤ pos 0) ≡ i
    same i = omega (arith, ints)
