-- The two turns, component by component: what the code computes of them, and how large they are.
use Rattle.std.proofs.Common.{◌≡◌, ℕ, ◌+◌, ◌*◌, ◌^◌, ◌≤◌, ◌∙◌, unsigned_abs, arith}
use Rattle.std.proofs.Math.IntN.{ℤ, pos, ◌+ℤ◌, ◌-ℤ◌, ◌*ℤ◌}
use Rattle.std.proofs.Math.Nat.{le_trans}
use Rattle.std.proofs.lemmas.Int.{ints, unsigned_abs-mul, to_z-of_z}
use mir.Syntax.{w128}
use mir.Val.{SFits, to_z, of_z}
use Rattle.pic_num.specs.Push.{cross, half_turned}
use Rattle.pic_num.specs.Rounding.{rounded}
use Rattle.pic_num.specs.Sizes.{IsAtMost}
use Rattle.pic_num.specs.Space.{Spot, AreAtMost}
use Rattle.pic_num.proofs.RoundingLaws.{rounded-size}
use Rattle.pic_num.proofs.SizeLaws.{codes, code_is, times_at_most, at_most_more}

minor_size : (a b c d : ℤ) (n m : ℕ) → IsAtMost a n → IsAtMost b m → IsAtMost c n → IsAtMost d m → unsigned_abs (a *ℤ b -ℤ c *ℤ d) ≤ 2 * (n * m)
minor_size a b c d n m h k l o =
    let p : unsigned_abs (a *ℤ b) ≤ n * m = rw (unsigned_abs-mul a b) (times_at_most (unsigned_abs a) (unsigned_abs b) n m h.size k.size) in
    let q : unsigned_abs (c *ℤ d) ≤ n * m = rw (unsigned_abs-mul c d) (times_at_most (unsigned_abs c) (unsigned_abs d) n m l.size o.size) in
    omega (arith, ints, p, q)

part_size : (v w : ℤ) (n k : ℕ) → IsAtMost v n → unsigned_abs w ≤ k * 2 ^ 20 → IsAtMost (v +ℤ rounded w (pos (2 ^ 20))) (n + k)
part_size v w n k h few =
    let turn = rounded-size w (pos (2 ^ 20)) k (2 ^ 20) (omega arith) (omega (arith, ints)) few in
    record { size = omega (arith, ints, h.size, turn) }

-- a velocity of at most n, turned by at most m, is at most n and k
pub half_turned_size : (v t : Spot) (n m k : ℕ) → AreAtMost v n → AreAtMost t m → 2 * (n * m) ≤ k * 2 ^ 20 → AreAtMost (half_turned v t) (n + k)
unfolding half_turned cross
half_turned_size v t n m k h l few = record {
  x = part_size v.x (v.y *ℤ t.z -ℤ v.z *ℤ t.y) n k h.x (le_trans (minor_size v.y t.z v.z t.y n m h.y l.z h.z l.y) few);
  y = part_size v.y (v.z *ℤ t.x -ℤ v.x *ℤ t.z) n k h.y (le_trans (minor_size v.z t.x v.x t.z n m h.z l.x h.x l.z) few);
  z = part_size v.z (v.x *ℤ t.y -ℤ v.y *ℤ t.x) n k h.z (le_trans (minor_size v.x t.y v.y t.x n m h.x l.y h.y l.x) few);
}

pub more_at_most : (v : Spot) (n m : ℕ) → n ≤ m → AreAtMost v n → AreAtMost v m
more_at_most v n m more h = record { x = at_most_more v.x n m more h.x; y = at_most_more v.y n m more h.y; z = at_most_more v.z n m more h.z }

-- a component of the first turn, with its casts left out
pub half_part_is : (v w r : ℤ) → IsAtMost v (2 ^ 40) → IsAtMost w (2 ^ 71) → SFits w128 r
    → r ≡ to_z w128 (of_z w128 v) +ℤ rounded (to_z w128 (of_z w128 w)) (pos (2 ^ 20))
    → to_z w128 (of_z w128 r) ≡ v +ℤ rounded w (pos (2 ^ 20))
half_part_is v w r h k fits is =
    let v_is : to_z w128 (of_z w128 v) ≡ v = code_is (search codes depth 4) tt in
    let w_is : to_z w128 (of_z w128 w) ≡ w = code_is (search codes depth 4) tt in
    to_z-of_z w128 r fits ∙ is ∙ (λ i. v_is i +ℤ rounded (w_is i) (pos (2 ^ 20)))

-- a component of the whole turn, with its casts left out
pub whole_part_is : (v w d r : ℤ) → IsAtMost v (2 ^ 40) → IsAtMost w (2 ^ 71) → IsAtMost d (2 ^ 50) → SFits w128 r
    → r ≡ to_z w128 (of_z w128 v) +ℤ rounded (pos (2 ^ 21) *ℤ to_z w128 (of_z w128 w)) (to_z w128 (of_z w128 d))
    → to_z w128 (of_z w128 r) ≡ v +ℤ rounded (pos (2 ^ 21) *ℤ w) d
whole_part_is v w d r h k l fits is =
    let v_is : to_z w128 (of_z w128 v) ≡ v = code_is (search codes depth 4) tt in
    let w_is : to_z w128 (of_z w128 w) ≡ w = code_is (search codes depth 4) tt in
    let d_is : to_z w128 (of_z w128 d) ≡ d = code_is (search codes depth 4) tt in
    to_z-of_z w128 r fits ∙ is ∙ (λ i. v_is i +ℤ rounded (pos (2 ^ 21) *ℤ w_is i) (d_is i))
