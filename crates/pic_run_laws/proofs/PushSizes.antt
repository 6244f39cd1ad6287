-- How large the numbers of a push can be: what is gathered, the kick, the turn and the move.
use Rattle.std.proofs.Common.{ℕ, zero, suc, ℤ, pos, negsuc, ◌+◌, ◌*◌, ◌^◌, ◌<◌, ◌≤◌, ◌+ℤ◌, ◌-ℤ◌, ◌*ℤ◌, ◌≤ℤ◌, ◌<ℤ◌, unsigned_abs, sym, subst, arith}
use Rattle.std.proofs.lemmas.Int.{ints, unsigned_abs-mul}
use Rattle.std.proofs.Math.IntN.{pos-*ℤ-pos, negsuc-*ℤ-negsuc}
use Rattle.std.proofs.Math.Nat.{le_trans, one-le-pow}
use Rattle.pic_num.specs.declared.axis.Axis.{Axis}
use Rattle.pic_num.specs.declared.axis.Axis.TheVariants.{X, Y, Z}
use Rattle.pic_num.specs.Limits.{velocity_unit}
use Rattle.pic_num.specs.Multiplier.{Multiplier, IsMultiplier}
use Rattle.pic_num.specs.Push.{each, plus, cross, dot, half_turned, turned}
use Rattle.pic_num.specs.Rounding.{rounded, scaled}
use Rattle.pic_num.specs.Sizes.{IsAtMost}
use Rattle.pic_num.specs.Space.{Triple, Spot, AreAtMost}
use Rattle.pic_num.proofs.RoundingLaws.{rounded-size, rounded-no_larger}
use Rattle.pic_num.proofs.SizeLaws.{codes, code_at_most, times_at_most}
use Rattle.pic_block.specs.Cells.{IsCells, IsWithin}
use Rattle.pic_grid.specs.Gather.{weighted, shifted_weight, gathered, gathered_e, gathered_b, offset_e, offset_b}
use Rattle.pic_grid.specs.Sums.{sum_below, sum_cells}
use Rattle.pic_grid.proofs.HatLaws.{hat_most}
use Rattle.pic_grid.proofs.SumLaws.{cube_is}
use Rattle.pic_boris.proofs.TurnLaws.{half_turned_size}
use Rattle.pic_run_laws.proofs.ScaledSizes.{scaled_size}

-- sums
below_size : (n : ℕ) (f : ℕ → ℤ) (m : ℕ) → ((j : ℕ) → j < n → unsigned_abs (f j) ≤ m) → unsigned_abs (sum_below n f) ≤ n * m
unfolding sum_below
below_size zero f m small = omega (arith, ints)
below_size (suc n) f m small =
    let before = below_size n f m (λ j below. small j (omega (arith, below))) in
    let here = small n (omega arith) in
    omega (arith, ints, before, here)

cells_size : (n : Triple) (f : Triple → ℤ) (m : ℕ) → ((p : Triple) → IsWithin p n → unsigned_abs (f p) ≤ m)
    → unsigned_abs (sum_cells n f) ≤ n.z * (n.y * (n.x * m))
unfolding sum_cells
cells_size n f m small =
    below_size n.z (λ z. sum_below n.y (λ y. sum_below n.x (λ x. f (record { x = x; y = y; z = z })))) (n.y * (n.x * m)) (λ z in_z.
    below_size n.y (λ y. sum_below n.x (λ x. f (record { x = x; y = y; z = z }))) (n.x * m) (λ y in_y.
    below_size n.x (λ x. f (record { x = x; y = y; z = z })) m (λ x in_x. small (record { x = x; y = y; z = z }) (record { x = in_x; y = in_y; z = in_z }))))

-- a weight is at most the cube of a cell's side
weight_most : (side : ℕ) (n offset point p : Triple) → shifted_weight side n offset point p ≤ side ^ 3
unfolding shifted_weight
weight_most side n offset point p =
    let x = hat_most side (n.x * side) point.x (p.x * side + offset.x) in
    let y = hat_most side (n.y * side) point.y (p.y * side + offset.y) in
    let z = hat_most side (n.z * side) point.z (p.z * side + offset.z) in
    subst (λ (c : ℕ). shifted_weight side n offset point p ≤ c) (cube_is side)
    (times_at_most _ _ (side * side) side (times_at_most _ _ side side x y) z)

-- what is gathered of force values within their bound
pub gathered_size : (side : ℕ) (n offset : Triple) (force : Triple → ℤ) (point : Triple) → 0 < side → IsCells n
    → ((p : Triple) → IsWithin p n → IsAtMost (force p) (2 ^ 44)) → IsAtMost (gathered side n offset force point) (2 ^ 65)
unfolding gathered
gathered_size side n offset force point some cells small =
    let cube = side ^ 3 in
    let above : 1 ≤ cube = one-le-pow 3 side some in
    let m = 2 ^ 44 * cube in
    let all = cells_size n (λ p. weighted side n offset force point p) m one in
    let x = times_at_most n.x m 128 m cells.x_most (omega arith) in
    let y = times_at_most n.y (n.x * m) 128 (128 * m) cells.y_most x in
    let z = times_at_most n.z (n.y * (n.x * m)) 128 (128 * (128 * m)) cells.z_most y in
    record {
      size = rounded-size (sum_cells n (λ p. weighted side n offset force point p))
          (pos cube) (2 ^ 65) cube (omega (arith, above)) (omega (arith, ints)) (omega (arith, all, z));
    }
  where
    one : (p : Triple) → IsWithin p n → unsigned_abs (weighted side n offset force point p) ≤ 2 ^ 44 * side ^ 3
    one p within = rw (unsigned_abs-mul (force p) (pos (shifted_weight side n offset point p)))
        (times_at_most (unsigned_abs (force p)) (shifted_weight side n offset point p) (2 ^ 44) (side ^ 3) (small p within).size
        (weight_most side n offset point p))

pub gathered_e_size : (side : ℕ) (n : Triple) (force : Axis → Triple → ℤ) (point : Triple) → 0 < side → IsCells n
    → ((a : Axis) (p : Triple) → IsWithin p n → IsAtMost (force a p) (2 ^ 44)) → AreAtMost (gathered_e side n force point) (2 ^ 65)
gathered_e_size side n force point some cells small = record {
  x = gathered_size side n (offset_e side X) (force X) point some cells (small X);
  y = gathered_size side n (offset_e side Y) (force Y) point some cells (small Y);
  z = gathered_size side n (offset_e side Z) (force Z) point some cells (small Z);
}

pub gathered_b_size : (side : ℕ) (n : Triple) (force : Axis → Triple → ℤ) (point : Triple) → 0 < side → IsCells n
    → ((a : Axis) (p : Triple) → IsWithin p n → IsAtMost (force a p) (2 ^ 44)) → AreAtMost (gathered_b side n force point) (2 ^ 65)
gathered_b_size side n force point some cells small = record {
  x = gathered_size side n (offset_b side X) (force X) point some cells (small X);
  y = gathered_size side n (offset_b side Y) (force Y) point some cells (small Y);
  z = gathered_size side n (offset_b side Z) (force Z) point some cells (small Z);
}

-- half of a kick, and a turn
pub kick_size : (e : Spot) (by : Multiplier) → IsMultiplier by → AreAtMost e (2 ^ 65) → AreAtMost (each (λ c. scaled c by) e) (2 ^ 96)
kick_size e by is small = record { x = one e.x small.x; y = one e.y small.y; z = one e.z small.z }
  where
    one : (c : ℤ) → IsAtMost c (2 ^ 65) → IsAtMost (scaled c by) (2 ^ 96)
    one c h = let size = (scaled_size c by (2 ^ 65) is h).size in record { size = omega (arith, size) }

pub plus_size : (p q : Spot) (m n k : ℕ) → m + n ≤ k → AreAtMost p m → AreAtMost q n → AreAtMost (plus p q) k
plus_size p q m n k few h l = record { x = one p.x q.x h.x l.x; y = one p.y q.y h.y l.y; z = one p.z q.z h.z l.z }
  where
    one : (a b : ℤ) → IsAtMost a m → IsAtMost b n → IsAtMost (a +ℤ b) k
    one a b x y =
        let u = x.size in
        let v = y.size in
        record { size = omega (arith, ints, u, v, few) }

-- a square isn't below 0
square_least : (a : ℤ) → pos 0 ≤ℤ (a *ℤ a)
square_least (pos n) = subst (λ (z : ℤ). pos 0 ≤ℤ z) (sym (pos-*ℤ-pos n n)) (omega (arith, ints))
square_least (negsuc n) = subst (λ (z : ℤ). pos 0 ≤ℤ z) (sym (negsuc-*ℤ-negsuc n n)) (omega (arith, ints))

-- by what the whole turn is divided
abbrev divisor : Spot → ℤ
divisor t = pos (2 ^ 40) +ℤ (t.x *ℤ t.x +ℤ t.y *ℤ t.y +ℤ t.z *ℤ t.z)

above_zero : (t : Spot) → pos 0 <ℤ divisor t
above_zero t =
    let x = square_least t.x in
    let y = square_least t.y in
    let z = square_least t.z in
    omega (arith, ints, x, y, z)

-- the whole turn of a velocity that isn't too fast by a turn that isn't too large
pub turned_size : (v t : Spot) → AreAtMost v (2 ^ 40) → AreAtMost t (2 ^ 24) → AreAtMost (turned v t) (2 ^ 93)
unfolding turned cross dot
turned_size v t slow weak =
    let h = half_turned v t in
    let half = half_turned_size v t (2 ^ 40) (2 ^ 24) (2 ^ 45) slow weak (omega arith) in
    record {
      x = part v.x h.y t.z h.z t.y slow.x half.y weak.z half.z weak.y;
      y = part v.y h.z t.x h.x t.z slow.y half.z weak.x half.x weak.z;
      z = part v.z h.x t.y h.y t.x slow.z half.x weak.y half.y weak.x;
    }
  where
    part : (u a b c e : ℤ) → IsAtMost u (2 ^ 40) → IsAtMost a (2 ^ 40 + 2 ^ 45) → IsAtMost b (2 ^ 24) → IsAtMost c (2 ^ 40 + 2 ^ 45) → IsAtMost e (2 ^ 24)
        → IsAtMost (u +ℤ rounded (pos (2 ^ 21) *ℤ (a *ℤ b -ℤ c *ℤ e)) (divisor t)) (2 ^ 93)
    part u a b c e h0 h1 h2 h3 h4 =
        let top : IsAtMost (pos (2 ^ 21) *ℤ (a *ℤ b -ℤ c *ℤ e)) (2 ^ 92) = code_at_most (search codes depth 14) tt in
        let less = rounded-no_larger (pos (2 ^ 21) *ℤ (a *ℤ b -ℤ c *ℤ e)) (divisor t) (above_zero t) in
        let most = top.size in
        let old = h0.size in
        record { size = omega (arith, ints, less, most, old) }

-- a move is no larger than its velocity
pub move_size : (v : Spot) (m : ℕ) → AreAtMost v m → AreAtMost (each (λ c. rounded c (pos velocity_unit)) v) m
move_size v m small = record { x = one v.x small.x; y = one v.y small.y; z = one v.z small.z }
  where
    one : (c : ℤ) → IsAtMost c m → IsAtMost (rounded c (pos velocity_unit)) m
    one c h = record { size = le_trans (rounded-no_larger c (pos velocity_unit) (omega (arith, ints))) h.size }
