-- How large a flux can be: by the charge, the way and the side of a cell.
use Rattle.std.proofs.Common.{◌≡◌, ℕ, zero, suc, ◌+◌, ◌-◌, ◌*◌, ◌≤◌, Bool, true, false, unsigned_abs, if◌then◌else◌, List, [], ◌∷◌, length, take}
use Rattle.std.proofs.Common.{refl, sym, ◌∙◌, ap, subst, mul-le-mul, arith}
use Rattle.std.proofs.Math.IntN.{ℤ, pos, ◌+ℤ◌, ◌-ℤ◌, ◌*ℤ◌}
use Rattle.std.proofs.Math.Nat.{mul-le-mul_left, mul-le-mul_right, le_trans}
use Rattle.std.specs.List.{All}
use Rattle.std.proofs.lemmas.Int.{ints, unsigned_abs-mul}
use Rattle.std.proofs.lemmas.List.Elements.{All-head, All-tail}
use Rattle.pic_num.proofs.Ring.{ring, reads}
use Rattle.pic_num.specs.declared.axis.Axis.{Axis}
use Rattle.pic_num.specs.Flux.{simpson}
use Rattle.pic_num.specs.Space.{Spot, along, next_axis}
use Rattle.pic_grid.specs.Flux.{edge_weight, flux, path_flux}
use Rattle.pic_grid.specs.Hat.{hat}
use Rattle.pic_grid.specs.Path.{same_int}
use Rattle.pic_grid.specs.Segment.{Piece, IsInside, IsInCell}
use Rattle.pic_grid.specs.Sums.{sum_over}
use Rattle.pic_grid.specs.Ways.{ways}

-- the weights' part of the flux of a piece
weights_within : (s a0 a1 b0 b1 : ℕ) → a0 ≤ s → a1 ≤ s → b0 ≤ s → b1 ≤ s → 2 * (a0 * b0 + (a0 + a1) * (b0 + b1) + a1 * b1) ≤ 12 * (s * s)
weights_within s a0 a1 b0 b1 h0 h1 k0 k1 =
    let p = mul-le-mul h0 k0 in
    let q = mul-le-mul h0 k1 in
    let r = mul-le-mul h1 k0 in
    let t = mul-le-mul h1 k1 in omega (arith, p, q, r, t)

pub flux_of_naturals : (q way : ℤ) (a0 a1 b0 b1 : ℕ)
    → simpson q way (pos a0) (pos a1) (pos b0) (pos b1) ≡ q *ℤ way *ℤ pos (2 * (a0 * b0 + (a0 + a1) * (b0 + b1) + a1 * b1))
unfolding simpson
flux_of_naturals q way a0 a1 b0 b1 = ring (q ∷ way ∷ pos a0 ∷ pos a1 ∷ pos b0 ∷ pos b1 ∷ []) (search reads depth 40 fits 9000) tt

pub simpson_size : (s : ℕ) (q way : ℤ) (a0 a1 b0 b1 : ℕ) → a0 ≤ s → a1 ≤ s → b0 ≤ s → b1 ≤ s
    → unsigned_abs (simpson q way (pos a0) (pos a1) (pos b0) (pos b1)) ≤ unsigned_abs q * unsigned_abs way * (12 * (s * s))
simpson_size s q way a0 a1 b0 b1 h0 h1 k0 k1 =
    let w = 2 * (a0 * b0 + (a0 + a1) * (b0 + b1) + a1 * b1) in
    let e = ap unsigned_abs (flux_of_naturals q way a0 a1 b0 b1) ∙ unsigned_abs-mul (q *ℤ way) (pos w) ∙ ap (λ n. n * w) (unsigned_abs-mul q way) in
    let h = mul-le-mul_left (unsigned_abs q * unsigned_abs way) (weights_within s a0 a1 b0 b1 h0 h1 k0 k1) in
    subst (λ (n : ℕ). n ≤ unsigned_abs q * unsigned_abs way * (12 * (s * s))) (sym e) h

hat_of : ℕ → ℤ → ℤ → ℕ
hat_of side p g = side - unsigned_abs (p -ℤ g)

hat_is : (side : ℕ) (p g : ℤ) → hat side p g ≡ pos (hat_of side p g)
unfolding hat hat_of
hat_is side p g = refl

hat_within : (side : ℕ) (p g : ℤ) → hat_of side p g ≤ side
unfolding hat_of
hat_within side p g = omega arith

-- what a test lets through is no larger
pub chosen_size : (t : Bool) (x : ℤ) (n : ℕ) → unsigned_abs x ≤ n → unsigned_abs (if t then x else pos 0) ≤ n
chosen_size true x n h = h
chosen_size false x n h = omega arith

hats_size : (side : ℕ) (q way p0 p1 r0 r1 g h : ℤ)
    → unsigned_abs (simpson q way (hat side p0 g) (hat side p1 g) (hat side r0 h) (hat side r1 h)) ≤ unsigned_abs q * unsigned_abs way * (12 * (side * side))
hats_size side q way p0 p1 r0 r1 g h =
    let is : simpson q way (hat side p0 g) (hat side p1 g) (hat side r0 h) (hat side r1 h)
    ≡ simpson q way (pos (hat_of side p0 g)) (pos (hat_of side p1 g)) (pos (hat_of side r0 h)) (pos (hat_of side r1 h)) =
    (λ i. simpson q way (hat_is side p0 g i) (hat_is side p1 g i) (hat_is side r0 h i) (hat_is side r1 h i)) in
    subst (λ (z : ℤ). unsigned_abs z ≤ unsigned_abs q * unsigned_abs way * (12 * (side * side))) (sym is)
    (simpson_size side q way (hat_of side p0 g) (hat_of side p1 g) (hat_of side r0 h) (hat_of side r1 h)
    (hat_within side p0 g) (hat_within side p1 g) (hat_within side r0 h) (hat_within side r1 h))

-- the flux of a piece through an edge is at most |q| times the size of its way, times 12 side^2
pub flux_size : (side : ℕ) (q : ℤ) (s : Piece) (a : Axis) (edge : Spot)
    → unsigned_abs (flux side q s a edge) ≤ unsigned_abs q * unsigned_abs (along a s.to -ℤ along a s.from) * (12 * (side * side))
unfolding flux
flux_size side q s a edge =
    let second = next_axis a in
    let third = next_axis second in
    let way = along a s.to -ℤ along a s.from in
    let weight = λ (axis : Axis) (p : Spot). edge_weight side axis p edge in
    chosen_size (same_int (along a edge) (along a s.cell))
    (simpson q way (weight second s.from) (weight second s.to) (weight third s.from) (weight third s.to))
    (unsigned_abs q * unsigned_abs way * (12 * (side * side)))
    (hats_size side q way (along second s.from) (along second s.to) (along third s.from) (along third s.to)
    (along second edge *ℤ pos side) (along third edge *ℤ pos side))

sum_within : (x y : ℤ) (n v w m : ℕ) → unsigned_abs x ≤ n * v * m → unsigned_abs y ≤ n * w * m → unsigned_abs (x +ℤ y) ≤ n * (v + w) * m
sum_within x y n v w m h k =
    let e : n * (v + w) * m ≡ n * v * m + n * w * m = omega arith in omega (arith, ints, h, k, e)

-- the flux of all pieces of a path, by their ways along the axis
pub ways_flux_size : (side : ℕ) (q : ℤ) (ss : List Piece) (a : Axis) (edge : Spot)
    → unsigned_abs (path_flux side q ss a edge) ≤ unsigned_abs q * ways a ss * (12 * (side * side))
unfolding path_flux sum_over ways
ways_flux_size side q [] a edge = omega arith
ways_flux_size side q (s ∷ ss) a edge =
    let here = flux_size side q s a edge in
    let rest = ways_flux_size side q ss a edge in
    sum_within (flux side q s a edge) (path_flux side q ss a edge)
    (unsigned_abs q) (unsigned_abs (along a s.to -ℤ along a s.from)) (ways a ss) (12 * (side * side)) here rest

-- the pieces at the front of a path go no further than all
front_ways : (a : Axis) (k : ℕ) (ss : List Piece) → ways a (take k ss) ≤ ways a ss
unfolding ways
front_ways a zero ss = omega arith
front_ways a (suc k) [] = omega arith
front_ways a (suc k) (s ∷ ss) = let h = front_ways a k ss in omega (arith, h)

-- the flux of a path, where its pieces' ways are at most m
pub path_flux_most : (side : ℕ) (q : ℤ) (ss : List Piece) (a : Axis) (edge : Spot) (m : ℕ) → ways a ss ≤ m
    → unsigned_abs (path_flux side q ss a edge) ≤ unsigned_abs q * m * (12 * (side * side))
path_flux_most side q ss a edge m h =
    le_trans (ways_flux_size side q ss a edge) (mul-le-mul_right (12 * (side * side)) (mul-le-mul_left (unsigned_abs q) h))

-- and that of the pieces at its front
pub front_flux_size : (side : ℕ) (q : ℤ) (ss : List Piece) (a : Axis) (edge : Spot) (m k : ℕ) → ways a ss ≤ m
    → unsigned_abs (path_flux side q (take k ss) a edge) ≤ unsigned_abs q * m * (12 * (side * side))
front_flux_size side q ss a edge m k h = path_flux_most side q (take k ss) a edge m (le_trans (front_ways a k ss) h)

within : (side : ℕ) (c p r : ℤ) → IsInside side c p → IsInside side c r → unsigned_abs (r -ℤ p) ≤ side
within side c p r h k = omega (arith, ints, h.low, h.high, k.low, k.high)

-- a piece in its closed cell goes at most a side along an axis
pub way_most : (side : ℕ) (s : Piece) → IsInCell side s → (a : Axis) → unsigned_abs (along a s.to -ℤ along a s.from) ≤ side
way_most side s inside a = within side (along a s.cell) (along a s.from) (along a s.to) (inside.from a) (inside.to a)

-- and so do all pieces of a path together, times their number
pub ways_most : (side : ℕ) (ss : List Piece) → All (IsInCell side) ss → (a : Axis) → ways a ss ≤ side * length ss
unfolding ways
ways_most side [] all a = omega arith
ways_most side (s ∷ ss) all a =
    let here = way_most side s (All-head (IsInCell side) s ss all) a in
    let rest = ways_most side ss (All-tail (IsInCell side) s ss all) a in omega (arith, here, rest)
