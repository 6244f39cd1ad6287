-- The weights of a point of a closed cell on one axis: they are those of the two nodes of the cell, and
-- 0 for every other node.
use Rattle.std.proofs.Common.{◌≡◌, ℕ, ◌<◌, ◌∙◌, [], ◌∷◌, ap, arith}
use Rattle.std.proofs.Math.IntN.{ℤ, pos, ◌+ℤ◌, ◌-ℤ◌, ◌*ℤ◌}
use Rattle.std.proofs.lemmas.Bool.Decides.{nat_tests}
use Rattle.std.proofs.lemmas.Int.{ints, by_lt_z}
use Rattle.std.specs.Prelude.{◌<ℤ◌, ◌≤ℤ◌, unsigned_abs, if◌then◌else◌}
use Rattle.pic_num.proofs.Ring.{ring, reads}
use Rattle.pic_num.proofs.RoundingLaws.{mul-le_mul}
use Rattle.pic_grid.specs.Hat.{hat}
use Rattle.pic_grid.specs.Path.{same_int}
use Rattle.pic_grid.specs.Segment.{IsInside}

-- 1 at the index c, and 0 elsewhere
abbrev pub only : ℤ → ℤ → ℤ
only c j = if same_int j c then pos 1 else pos 0

pub only_same : (c j : ℤ) → j ≡ c → only c j ≡ pos 1
unfolding same_int
only_same c j is = let none : unsigned_abs (j -ℤ c) ≡ 0 = omega (arith, ints, is) in grind (arith, nat_tests)

pub only_below : (c j : ℤ) → j <ℤ c → only c j ≡ pos 0
unfolding same_int
only_below c j is = let some : 0 < unsigned_abs (j -ℤ c) = omega (arith, ints, is) in grind (arith, nat_tests)

pub only_above : (c j : ℤ) → c <ℤ j → only c j ≡ pos 0
unfolding same_int
only_above c j is = let some : 0 < unsigned_abs (j -ℤ c) = omega (arith, ints, is) in grind (arith, nat_tests)

-- A cell times the side, next to another and further away.

pub next_times : (s : ℕ) (c : ℤ) → (c +ℤ pos 1) *ℤ pos s ≡ c *ℤ pos s +ℤ pos s
next_times s c = ring (c ∷ pos s ∷ []) (search reads depth 40 fits 9000) tt

pub further_times : (s : ℕ) (c j : ℤ) → c <ℤ j → (c *ℤ pos s +ℤ pos s) ≤ℤ (j *ℤ pos s)
further_times s c j h =
    let p = mul-le_mul (c +ℤ pos 1) j (pos s) (omega (arith, ints, h)) (omega (arith, ints)) in
    let e = next_times s c in omega (arith, ints, p, e)

-- the weight of a point of the closed cell c, for the node j: it is that of the two nodes of the cell
pub two_hats : (s : ℕ) (c p j : ℤ) → IsInside s c p
    → hat s p (j *ℤ pos s) ≡ only c j *ℤ (c *ℤ pos s +ℤ pos s -ℤ p) +ℤ only (c +ℤ pos 1) j *ℤ (p -ℤ c *ℤ pos s)
unfolding hat
two_hats s c p j h =
    let low = h.low in
    let high = h.high in
    let e = next_times s c in
    by_lt_z j c
    (λ under.
    let t = further_times s j c under in
    let first = only_below c j under in
    let second = only_below (c +ℤ pos 1) j (omega (arith, ints, under)) in
    rw (first, second) (omega (arith, ints, low, high, t)))
    (λ above. by_lt_z c j
    (λ over. by_lt_z (c +ℤ pos 1) j
    (λ beyond.
    let t = further_times s (c +ℤ pos 1) j beyond in
    let first = only_above c j over in
    let second = only_above (c +ℤ pos 1) j beyond in
    rw (first, second) (omega (arith, ints, low, high, t, e)))
    (λ upto.
    let is : j ≡ c +ℤ pos 1 = omega (arith, ints, over, upto) in
    let f : j *ℤ pos s ≡ c *ℤ pos s +ℤ pos s = ap (λ (t : ℤ). t *ℤ pos s) is ∙ e in
    let first = only_above c j over in
    let second = only_same (c +ℤ pos 1) j is in
    rw (first, second) (omega (arith, ints, low, high, f))))
    (λ upto.
    let is : j ≡ c = omega (arith, ints, above, upto) in
    let f : j *ℤ pos s ≡ c *ℤ pos s = ap (λ (t : ℤ). t *ℤ pos s) is in
    let first = only_same c j is in
    let second = only_below (c +ℤ pos 1) j (omega (arith, ints, is)) in
    rw (first, second) (omega (arith, ints, low, high, f))))
