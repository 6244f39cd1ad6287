-- The weights of the four edges along an axis, by those for the high faces.
use Rattle.std.proofs.Common.{◌≡◌, ℕ, Bool, true, false, [], ◌∷◌}
use Rattle.std.proofs.Math.IntN.{ℤ, pos, ◌+ℤ◌, ◌-ℤ◌, ◌*ℤ◌}
use Rattle.pic_num.specs.Flux.{simpson}
use Rattle.pic_num.proofs.Ring.{ring, reads}
use Rattle.pic_num.proofs.Simpson.{villasenor_buneman}
use Rattle.pic_flux.specs.Corners.{face_weight, weight_by}

one_second : (s q way a0 a1 b0 b1 : ℤ)
    → q *ℤ way *ℤ (pos 6 *ℤ s *ℤ (a0 +ℤ a1) -ℤ (pos 3 *ℤ (a0 +ℤ a1) *ℤ (b0 +ℤ b1) +ℤ (a1 -ℤ a0) *ℤ (b1 -ℤ b0)))
    ≡ simpson q way a0 a1 (s -ℤ b0) (s -ℤ b1)
unfolding simpson
one_second s q way a0 a1 b0 b1 = ring (s ∷ q ∷ way ∷ a0 ∷ a1 ∷ b0 ∷ b1 ∷ []) (search reads depth 40 fits 9000) tt

one_first : (s q way a0 a1 b0 b1 : ℤ)
    → q *ℤ way *ℤ (pos 6 *ℤ s *ℤ (b0 +ℤ b1) -ℤ (pos 3 *ℤ (a0 +ℤ a1) *ℤ (b0 +ℤ b1) +ℤ (a1 -ℤ a0) *ℤ (b1 -ℤ b0)))
    ≡ simpson q way (s -ℤ a0) (s -ℤ a1) b0 b1
unfolding simpson
one_first s q way a0 a1 b0 b1 = ring (s ∷ q ∷ way ∷ a0 ∷ a1 ∷ b0 ∷ b1 ∷ []) (search reads depth 40 fits 9000) tt

none : (s q way a0 a1 b0 b1 : ℤ)
    → q *ℤ way *ℤ (pos 6 *ℤ s *ℤ (pos 2 *ℤ s -ℤ (a0 +ℤ a1) -ℤ (b0 +ℤ b1)) +ℤ (pos 3 *ℤ (a0 +ℤ a1) *ℤ (b0 +ℤ b1) +ℤ (a1 -ℤ a0) *ℤ (b1 -ℤ b0)))
    ≡ simpson q way (s -ℤ a0) (s -ℤ a1) (s -ℤ b0) (s -ℤ b1)
unfolding simpson
none s q way a0 a1 b0 b1 = ring (s ∷ q ∷ way ∷ a0 ∷ a1 ∷ b0 ∷ b1 ∷ []) (search reads depth 40 fits 9000) tt

-- what is carried along the way, times the weight of an edge, is Simpson's form of the weights there
pub weighed : (side : ℕ) (q way : ℤ) (f g : Bool) (c p r e u v : ℤ)
    → q *ℤ way *ℤ weight_by (pos side) f g (face_weight side true c p) (face_weight side true c r) (face_weight side true e u) (face_weight side true e v)
    ≡ simpson q way (face_weight side f c p) (face_weight side f c r) (face_weight side g e u) (face_weight side g e v)
unfolding weight_by face_weight
weighed side q way true true c p r e u v =
    villasenor_buneman q way (p -ℤ c *ℤ pos side) (r -ℤ c *ℤ pos side) (u -ℤ e *ℤ pos side) (v -ℤ e *ℤ pos side)
weighed side q way true false c p r e u v =
    one_second (pos side) q way (p -ℤ c *ℤ pos side) (r -ℤ c *ℤ pos side) (u -ℤ e *ℤ pos side) (v -ℤ e *ℤ pos side)
weighed side q way false true c p r e u v =
    one_first (pos side) q way (p -ℤ c *ℤ pos side) (r -ℤ c *ℤ pos side) (u -ℤ e *ℤ pos side) (v -ℤ e *ℤ pos side)
weighed side q way false false c p r e u v =
    none (pos side) q way (p -ℤ c *ℤ pos side) (r -ℤ c *ℤ pos side) (u -ℤ e *ℤ pos side) (v -ℤ e *ℤ pos side)
