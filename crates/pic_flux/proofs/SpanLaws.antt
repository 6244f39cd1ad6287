-- The flux through the four edges along an axis, by the spans of a piece.
use Rattle.std.proofs.Common.{◌≡◌, ℕ, Bool, true, false, ◌&&◌, [], ◌∷◌, refl, ◌∙◌, ap, arith}
use Rattle.std.proofs.Math.IntN.{ℤ, pos, ◌+ℤ◌, ◌-ℤ◌, ◌*ℤ◌}
use Rattle.std.proofs.lemmas.Int.{ints}
use Rattle.pic_num.specs.declared.axis.Axis.{Axis}
use Rattle.pic_num.specs.declared.axis.Axis.TheVariants.{X, Y, Z}
use Rattle.pic_num.specs.Space.{Spot, along, next_axis}
use Rattle.pic_num.proofs.Ring.{ring, reads}
use Rattle.pic_block.specs.Block.{BlockValues}
use Rattle.pic_block.specs.Rows.{lifted}
use Rattle.pic_grid.specs.Flux.{flux}
use Rattle.pic_grid.specs.Segment.{Piece, IsInCell}
use Rattle.pic_flux.specs.Adds.{Adds}
use Rattle.pic_flux.proofs.AddsLaws.{adds_none}
use Rattle.std.specs.Prelude.{if◌then◌else◌}
use Rattle.pic_flux.specs.CellFlux.{at_four}
use Rattle.pic_flux.specs.Corners.{same_axis, same_spot, at_edge, both, at_corners, on_axis, face_weight, weight_of, corner, both_high, weight_by}
use Rattle.pic_flux.specs.Spans.{AreSpanEnds, AreSpans, ends_on, both_of, four_by}
use Rattle.pic_flux.specs.declared.spans.Spans.{Spans}
use Rattle.pic_flux.proofs.CornerLaws.{corners_are}
use Rattle.pic_flux.proofs.WeightLaws.{weighed}

-- spans say of each axis what they are of it
pub ends_are : (side : ℕ) (s : Piece) (p : Spans) (a : Axis) → AreSpans side s p → AreSpanEnds side s a (ends_on p a)
ends_are side s p X h = h.x
ends_are side s p Y h = h.y
ends_are side s p Z h = h.z

apart : (m p r : ℤ) → r -ℤ p ≡ (r -ℤ m) -ℤ (p -ℤ m)
apart m p r = omega (arith, ints)

-- the way is how far the weights of the ends lie apart
way_is : (side : ℕ) (c p r : ℤ) → r -ℤ p ≡ face_weight side true c r -ℤ face_weight side true c p
unfolding face_weight
way_is side c p r = apart (c *ℤ pos side) p r

none_is : (s a b t : ℤ) → pos 12 *ℤ s *ℤ s -ℤ (pos 6 *ℤ s *ℤ a -ℤ t) -ℤ (pos 6 *ℤ s *ℤ b -ℤ t) -ℤ t ≡ pos 6 *ℤ s *ℤ (pos 2 *ℤ s -ℤ a -ℤ b) +ℤ t
none_is s a b t = ring (s ∷ a ∷ b ∷ t ∷ []) (search reads depth 40 fits 9000) tt

-- the four values are those of the corners of the piece's cell
module _ (side : ℕ) (q : ℤ) (s : Piece) (p : Spans) (axis : Axis) (h : AreSpans side s p)
  where
    abbrev second : Axis
    second = next_axis axis

    abbrev third : Axis
    third = next_axis second

    abbrev a0 : ℤ
    a0 = weight_of side s.cell true second s.from

    abbrev a1 : ℤ
    a1 = weight_of side s.cell true second s.to

    abbrev b0 : ℤ
    b0 = weight_of side s.cell true third s.from

    abbrev b1 : ℤ
    b1 = weight_of side s.cell true third s.to

    abbrev way : ℤ
    way = along axis s.to -ℤ along axis s.from

    carried_is : q *ℤ (ends_on p axis).way ≡ q *ℤ way
    carried_is = ap (λ (w : ℤ). q *ℤ w) (ends_are side s p axis h).way

    both_is : both_of (ends_on p second) (ends_on p third) ≡ both_high a0 a1 b0 b1
    both_is =
        let a = ends_are side s p second h in
        let b = ends_are side s p third h in
        let way_a = a.way ∙ way_is side (along second s.cell) (along second s.from) (along second s.to) in
        let way_b = b.way ∙ way_is side (along third s.cell) (along third s.from) (along third s.to) in
        λ i. pos 3 *ℤ a.sum i *ℤ b.sum i +ℤ way_a i *ℤ way_b i

    high_a_is : (ends_on p second).part -ℤ both_of (ends_on p second) (ends_on p third) ≡ pos 6 *ℤ pos side *ℤ (a0 +ℤ a1) -ℤ both_high a0 a1 b0 b1
    high_a_is =
        let a = ends_are side s p second h in
        let part = a.part ∙ ap (λ (z : ℤ). pos 6 *ℤ pos side *ℤ z) a.sum in
        λ i. part i -ℤ both_is i

    high_b_is : (ends_on p third).part -ℤ both_of (ends_on p second) (ends_on p third) ≡ pos 6 *ℤ pos side *ℤ (b0 +ℤ b1) -ℤ both_high a0 a1 b0 b1
    high_b_is =
        let b = ends_are side s p third h in
        let part = b.part ∙ ap (λ (z : ℤ). pos 6 *ℤ pos side *ℤ z) b.sum in
        λ i. part i -ℤ both_is i

    corner_is : (f g : Bool) → q *ℤ way *ℤ weight_by (pos side) f g a0 a1 b0 b1 ≡ corner side q s axis f g
    unfolding corner
    corner_is f g =
        weighed side q way f g (along second s.cell) (along second s.from) (along second s.to)
        (along third s.cell) (along third s.from) (along third s.to)

    high_high_is : (four_by p q axis).by *ℤ (four_by p q axis).high_high ≡ corner side q s axis true true
    unfolding weight_by
    high_high_is = (λ i. carried_is i *ℤ both_is i) ∙ corner_is true true

    high_low_is : (four_by p q axis).by *ℤ (four_by p q axis).high_low ≡ corner side q s axis true false
    unfolding weight_by
    high_low_is = (λ i. carried_is i *ℤ high_a_is i) ∙ corner_is true false

    low_high_is : (four_by p q axis).by *ℤ (four_by p q axis).low_high ≡ corner side q s axis false true
    unfolding weight_by
    low_high_is = (λ i. carried_is i *ℤ high_b_is i) ∙ corner_is false true

    low_low_is : (four_by p q axis).by *ℤ (four_by p q axis).low_low ≡ corner side q s axis false false
    unfolding weight_by
    low_low_is =
        (λ i. carried_is i *ℤ (h.whole i -ℤ high_a_is i -ℤ high_b_is i -ℤ both_is i))
        ∙ ap (λ (z : ℤ). q *ℤ way *ℤ z) (none_is (pos side) (a0 +ℤ a1) (b0 +ℤ b1) (both_high a0 a1 b0 b1))
        ∙ corner_is false false

    -- so they are the flux along the axis
    pub four_is : IsInCell side s → (a : Axis) (c : Spot) → at_four axis s.cell (four_by p q axis) a c ≡ on_axis axis (flux side q s axis) a c
    four_is inside a c =
        (λ i. at_corners axis s.cell (low_low_is i) (high_low_is i) (low_high_is i) (high_high_is i) a c) ∙ corners_are side q s axis inside a c

-- a piece that doesn't move along an axis adds nothing there
nothing : (q w z : ℤ) → w ≡ pos 0 → q *ℤ w *ℤ z ≡ pos 0
nothing q w z e = rw e (ring (q ∷ z ∷ []) (search reads depth 40 fits 9000) tt)

at_nothing : (axis : Axis) (there : Spot) (v : ℤ) (a : Axis) (c : Spot) → v ≡ pos 0 → at_edge axis there v a c ≡ pos 0
unfolding at_edge
at_nothing axis there v a c e = none_either (same_axis axis a && same_spot c there) v e
  where
    none_either : (b : Bool) (t : ℤ) → t ≡ pos 0 → (if b then t else pos 0) ≡ pos 0
    none_either true t e = e
    none_either false t e = refl

no_sum : (v w x y : ℤ) → v ≡ pos 0 → w ≡ pos 0 → x ≡ pos 0 → y ≡ pos 0 → (v +ℤ w) +ℤ (x +ℤ y) ≡ pos 0
no_sum v w x y h k l m = omega (arith, ints, h, k, l, m)

pub still_adds : (b : BlockValues) (p : Spans) (q : ℤ) (axis : Axis) (cell : Spot) → (ends_on p axis).way ≡ pos 0
    → Adds b b (at_four axis cell (four_by p q axis))
unfolding both
still_adds b p q axis cell none = adds_none b (at_four axis cell (four_by p q axis)) (λ a c.
    let high = lifted (next_axis (next_axis axis)) cell in
    no_sum _ _ _ _
    (at_nothing axis cell ((four_by p q axis).by *ℤ (four_by p q axis).low_low) a c (nothing q (ends_on p axis).way _ none))
    (at_nothing axis (lifted (next_axis axis) cell) ((four_by p q axis).by *ℤ (four_by p q axis).high_low) a c (nothing q (ends_on p axis).way _ none))
    (at_nothing axis high ((four_by p q axis).by *ℤ (four_by p q axis).low_high) a c (nothing q (ends_on p axis).way _ none))
    (at_nothing axis (lifted (next_axis axis) high) ((four_by p q axis).by *ℤ (four_by p q axis).high_high) a c (nothing q (ends_on p axis).way _ none)))
