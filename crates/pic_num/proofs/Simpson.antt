-- What the flux of a segment is: two polynomial identities, each one line of the ring solver.
use Rattle.std.proofs.Common.{◌≡◌, [], ◌∷◌}
use Rattle.std.proofs.Math.IntN.{ℤ, pos, ◌+ℤ◌, ◌-ℤ◌, ◌*ℤ◌}
use Rattle.pic_num.specs.Flux.{simpson}
use Rattle.pic_num.proofs.Ring.{ring, reads}

-- Simpson's form of a segment's flux is 12 times the form of Villasenor and Buneman: their mean
-- weights times the way, and a twelfth of the product of the changes
pub villasenor_buneman : (q way a0 a1 b0 b1 : ℤ)
    → q *ℤ way *ℤ (pos 3 *ℤ (a0 +ℤ a1) *ℤ (b0 +ℤ b1) +ℤ (a1 -ℤ a0) *ℤ (b1 -ℤ b0)) ≡ simpson q way a0 a1 b0 b1
unfolding simpson
villasenor_buneman q way a0 a1 b0 b1 =
    ring (q ∷ way ∷ a0 ∷ a1 ∷ b0 ∷ b1 ∷ []) (search reads depth 40 fits 9000) tt

-- The continuity of one segment at a corner of its cell: what its flux takes out of the corner
-- through the corner's three edges is the fall of 12 q times the corner's weight. a, b, c are the
-- corner's own weights on the three axes at the segment's start and end.
pub continuity : (q a0 a1 b0 b1 c0 c1 : ℤ)
    → simpson q (a0 -ℤ a1) b0 b1 c0 c1 +ℤ simpson q (b0 -ℤ b1) c0 c1 a0 a1 +ℤ simpson q (c0 -ℤ c1) a0 a1 b0 b1
    ≡ pos 12 *ℤ q *ℤ (a0 *ℤ b0 *ℤ c0) -ℤ pos 12 *ℤ q *ℤ (a1 *ℤ b1 *ℤ c1)
unfolding simpson
continuity q a0 a1 b0 b1 c0 c1 =
    ring (q ∷ a0 ∷ a1 ∷ b0 ∷ b1 ∷ c0 ∷ c1 ∷ []) (search reads depth 40 fits 9000) tt
