-- The flux of a piece in its closed cell is what the four corners along each axis say.
use Rattle.std.proofs.Common.{◌≡◌, ℕ, Bool, true, false, ◌&&◌, [], ◌∷◌, refl, sym, ◌∙◌, arith}
use Rattle.std.proofs.Math.IntN.{ℤ, pos, ◌+ℤ◌, ◌-ℤ◌, ◌*ℤ◌}
use Rattle.std.specs.Prelude.{if◌then◌else◌}
use Rattle.std.proofs.lemmas.Int.{ints}
use Rattle.pic_num.specs.declared.axis.Axis.{Axis}
use Rattle.pic_num.specs.declared.axis.Axis.TheVariants.{X, Y, Z}
use Rattle.pic_num.specs.Flux.{simpson}
use Rattle.pic_num.specs.Space.{Spot, along, next_axis}
use Rattle.pic_num.proofs.Ring.{ring, reads}
use Rattle.pic_block.specs.Block.{BlockValues, IsShaped}
use Rattle.pic_block.specs.Rows.{lifted}
use Rattle.pic_block.proofs.BlockLaws.{shaped_twice}
use Rattle.pic_grid.specs.Flux.{edge_weight, flux}
use Rattle.pic_grid.specs.Path.{same_int}
use Rattle.pic_grid.specs.Segment.{Piece, IsInCell}
use Rattle.pic_grid.proofs.TwoHatLaws.{only}
use Rattle.pic_flux.specs.Adds.{Adds}
use Rattle.pic_flux.specs.Corners.{at_edge, at_corners, on_axis, both, face_weight, corner}
use Rattle.pic_flux.proofs.AddsLaws.{adds_same, adds_twice}
use Rattle.pic_flux.proofs.OnlyLaws.{one, if_is, face_hats}

-- Tests of three coordinates, as a product.

chosen : (x y z : Bool) (v : ℤ) → (if x && (y && z) then v else pos 0) ≡ one x *ℤ (one y *ℤ (one z *ℤ v))
chosen true true true v = omega (arith, ints)
chosen true true false v = omega (arith, ints)
chosen true false z v = zero_times (one z *ℤ v)
  where
    zero_times : (w : ℤ) → pos 0 ≡ pos 1 *ℤ (pos 0 *ℤ w)
    zero_times w = omega (arith, ints)
chosen false y z v = zero_times (one y *ℤ (one z *ℤ v))
  where
    zero_times : (w : ℤ) → pos 0 ≡ pos 0 *ℤ w
    zero_times w = omega (arith, ints)

turn_y : (a b c v : ℤ) → a *ℤ (b *ℤ (c *ℤ v)) ≡ b *ℤ (c *ℤ (a *ℤ v))
turn_y a b c v = ring (a ∷ b ∷ c ∷ v ∷ []) (search reads depth 40 fits 9000) tt

turn_z : (a b c v : ℤ) → a *ℤ (b *ℤ (c *ℤ v)) ≡ c *ℤ (a *ℤ (b *ℤ v))
turn_z a b c v = ring (a ∷ b ∷ c ∷ v ∷ []) (search reads depth 40 fits 9000) tt

-- 1 where the cell c has on an axis the index of p, or the next one up, else 0
abbrev level : Axis → Spot → Spot → ℤ
level axis p c = only (along axis p) (along axis c)

abbrev above : Axis → Spot → Spot → ℤ
above axis p c = only (along axis p +ℤ pos 1) (along axis c)

-- the value at an edge along axis at p, as seen from the cell c
edge_is : (axis : Axis) (p : Spot) (v : ℤ) (c : Spot)
    → at_edge axis p v axis c ≡ level axis p c *ℤ (level (next_axis axis) p c *ℤ (level (next_axis (next_axis axis)) p c *ℤ v))
unfolding at_edge
edge_is X p v c = chosen (same_int c.x p.x) (same_int c.y p.y) (same_int c.z p.z) v
edge_is Y p v c =
    chosen (same_int c.x p.x) (same_int c.y p.y) (same_int c.z p.z) v
    ∙ turn_y (one (same_int c.x p.x)) (one (same_int c.y p.y)) (one (same_int c.z p.z)) v
edge_is Z p v c =
    chosen (same_int c.x p.x) (same_int c.y p.y) (same_int c.z p.z) v
    ∙ turn_z (one (same_int c.x p.x)) (one (same_int c.y p.y)) (one (same_int c.z p.z)) v

-- and at the cells up from p along the next axis, along the third, and along both
edge_second : (axis : Axis) (p : Spot) (v : ℤ) (c : Spot)
    → at_edge axis (lifted (next_axis axis) p) v axis c
    ≡ level axis p c *ℤ (above (next_axis axis) p c *ℤ (level (next_axis (next_axis axis)) p c *ℤ v))
edge_second X p v c = edge_is X (lifted Y p) v c
edge_second Y p v c = edge_is Y (lifted Z p) v c
edge_second Z p v c = edge_is Z (lifted X p) v c

edge_third : (axis : Axis) (p : Spot) (v : ℤ) (c : Spot)
    → at_edge axis (lifted (next_axis (next_axis axis)) p) v axis c
    ≡ level axis p c *ℤ (level (next_axis axis) p c *ℤ (above (next_axis (next_axis axis)) p c *ℤ v))
edge_third X p v c = edge_is X (lifted Z p) v c
edge_third Y p v c = edge_is Y (lifted X p) v c
edge_third Z p v c = edge_is Z (lifted Y p) v c

edge_far : (axis : Axis) (p : Spot) (v : ℤ) (c : Spot)
    → at_edge axis (lifted (next_axis axis) (lifted (next_axis (next_axis axis)) p)) v axis c
    ≡ level axis p c *ℤ (above (next_axis axis) p c *ℤ (above (next_axis (next_axis axis)) p c *ℤ v))
edge_far X p v c = edge_is X (lifted Y (lifted Z p)) v c
edge_far Y p v c = edge_is Y (lifted Z (lifted X p)) v c
edge_far Z p v c = edge_is Z (lifted X (lifted Y p)) v c

-- Simpson's form is linear in the weights of each axis, so the flux for weights that are chosen is the
-- sum of four
four : (o q d l h m n a0 a1 e0 e1 b0 b1 f0 f1 : ℤ)
    → o *ℤ (l *ℤ (m *ℤ simpson q d a0 a1 b0 b1)) +ℤ o *ℤ (h *ℤ (m *ℤ simpson q d e0 e1 b0 b1))
    +ℤ (o *ℤ (l *ℤ (n *ℤ simpson q d a0 a1 f0 f1)) +ℤ o *ℤ (h *ℤ (n *ℤ simpson q d e0 e1 f0 f1)))
    ≡ o *ℤ simpson q d (l *ℤ a0 +ℤ h *ℤ e0) (l *ℤ a1 +ℤ h *ℤ e1) (m *ℤ b0 +ℤ n *ℤ f0) (m *ℤ b1 +ℤ n *ℤ f1)
unfolding simpson
four o q d l h m n a0 a1 e0 e1 b0 b1 f0 f1 =
    ring (o ∷ q ∷ d ∷ l ∷ h ∷ m ∷ n ∷ a0 ∷ a1 ∷ e0 ∷ e1 ∷ b0 ∷ b1 ∷ f0 ∷ f1 ∷ []) (search reads depth 40 fits 9000) tt

-- the flux, its case as a factor
flux_is : (side : ℕ) (q : ℤ) (s : Piece) (axis : Axis) (c : Spot)
    → flux side q s axis c
    ≡ level axis s.cell c
    *ℤ simpson q (along axis s.to -ℤ along axis s.from)
    (edge_weight side (next_axis axis) s.from c) (edge_weight side (next_axis axis) s.to c)
    (edge_weight side (next_axis (next_axis axis)) s.from c) (edge_weight side (next_axis (next_axis axis)) s.to c)
unfolding flux
flux_is side q s axis c =
    if_is (same_int (along axis c) (along axis s.cell))
    (simpson q (along axis s.to -ℤ along axis s.from)
    (edge_weight side (next_axis axis) s.from c) (edge_weight side (next_axis axis) s.to c)
    (edge_weight side (next_axis (next_axis axis)) s.from c) (edge_weight side (next_axis (next_axis axis)) s.to c))

-- the four edges of a piece's cell along an axis, with what its corners say
abbrev pub corners : ℕ → ℤ → Piece → Axis → Axis → Spot → ℤ
corners side q s axis =
    at_corners axis s.cell (corner side q s axis false false) (corner side q s axis true false)
    (corner side q s axis false true) (corner side q s axis true true)

-- at an edge along that axis
corners_here : (side : ℕ) (q : ℤ) (s : Piece) (axis : Axis) (c : Spot) → IsInCell side s → corners side q s axis axis c ≡ flux side q s axis c
unfolding both corner
corners_here side q s axis c inside =
    let second = next_axis axis in
    let third = next_axis second in
    let way = along axis s.to -ℤ along axis s.from in
    let weight = λ (high : Bool) (a : Axis) (p : Spot). face_weight side high (along a s.cell) (along a p) in
    (λ i. edge_is axis s.cell (corner side q s axis false false) c i
    +ℤ edge_second axis s.cell (corner side q s axis true false) c i
    +ℤ (edge_third axis s.cell (corner side q s axis false true) c i
    +ℤ edge_far axis s.cell (corner side q s axis true true) c i))
    ∙ four (level axis s.cell c) q way
    (level second s.cell c) (above second s.cell c) (level third s.cell c) (above third s.cell c)
    (weight false second s.from) (weight false second s.to) (weight true second s.from) (weight true second s.to)
    (weight false third s.from) (weight false third s.to) (weight true third s.from) (weight true third s.to)
    ∙ sym (λ i. level axis s.cell c
    *ℤ simpson q way
    (face_hats side (along second s.cell) (along second c) (along second s.from) (inside.from second) i)
    (face_hats side (along second s.cell) (along second c) (along second s.to) (inside.to second) i)
    (face_hats side (along third s.cell) (along third c) (along third s.from) (inside.from third) i)
    (face_hats side (along third s.cell) (along third c) (along third s.to) (inside.to third) i))
    ∙ sym (flux_is side q s axis c)

-- at every edge the four corners say the flux along their axis
pub corners_are : (side : ℕ) (q : ℤ) (s : Piece) (axis : Axis) → IsInCell side s → (a : Axis) (c : Spot)
    → corners side q s axis a c ≡ on_axis axis (flux side q s axis) a c
unfolding both at_edge on_axis
corners_are side q s X inside X c = corners_here side q s X c inside
corners_are side q s Y inside Y c = corners_here side q s Y c inside
corners_are side q s Z inside Z c = corners_here side q s Z c inside
corners_are side q s X inside Y c = refl
corners_are side q s X inside Z c = refl
corners_are side q s Y inside X c = refl
corners_are side q s Y inside Z c = refl
corners_are side q s Z inside X c = refl
corners_are side q s Z inside Y c = refl

first_of_three : (f : ℤ) → f +ℤ pos 0 +ℤ pos 0 ≡ f
first_of_three f = omega (arith, ints)

second_of_three : (f : ℤ) → pos 0 +ℤ f +ℤ pos 0 ≡ f
second_of_three f = omega (arith, ints)

third_of_three : (f : ℤ) → pos 0 +ℤ pos 0 +ℤ f ≡ f
third_of_three f = omega (arith, ints)

-- the parts along the three axes are the whole
pub three_axes : (f : Axis → Spot → ℤ) (a : Axis) (c : Spot)
    → both (both (on_axis X (f X)) (on_axis Y (f Y))) (on_axis Z (f Z)) a c ≡ f a c
unfolding both on_axis
three_axes f X c = first_of_three (f X c)
three_axes f Y c = second_of_three (f Y c)
three_axes f Z c = third_of_three (f Z c)

-- so deposits along the three axes add the flux
pub three_added : (f : Axis → Spot → ℤ) (old x y now : BlockValues) → IsShaped old x → IsShaped x y
    → Adds old x (on_axis X (f X)) → Adds x y (on_axis Y (f Y)) → Adds y now (on_axis Z (f Z)) → Adds old now f
three_added f old x y now s t h k m =
    let two = both (on_axis X (f X)) (on_axis Y (f Y)) in
    adds_same old now (both two (on_axis Z (f Z))) f (three_axes f)
    (adds_twice old y now two (on_axis Z (f Z)) (shaped_twice old x y s t) (adds_twice old x y (on_axis X (f X)) (on_axis Y (f Y)) s h k) m)
