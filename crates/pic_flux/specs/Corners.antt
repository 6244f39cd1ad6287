-- The flux of a piece by its cell's corners: a piece in a closed cell has a weight for the four
-- edges along each axis at the cell's corners, and for no others (J. Villasenor and O. Buneman,
-- Comput. Phys. Commun. 69, 1992, 306: the four boundary currents of a cell).
use Rattle.std.specs.Prelude.{ℤ, pos, ℕ, ◌+ℤ◌, ◌-ℤ◌, ◌*ℤ◌, Bool, true, false, ◌&&◌, if◌then◌else◌}
use Rattle.pic_num.specs.declared.axis.Axis.{Axis}
use Rattle.pic_num.specs.declared.axis.Axis.TheVariants.{X, Y, Z}
use Rattle.pic_num.specs.Flux.{simpson}
use Rattle.pic_num.specs.Space.{Triple, Spot, along, next_axis}
use Rattle.pic_block.specs.Block.{InZone}
use Rattle.pic_block.specs.Rows.{lifted}
use Rattle.pic_grid.specs.Path.{same_int}
use Rattle.pic_grid.specs.Segment.{Piece}

-- whether two axes are one
abbrev pub same_axis : Axis → Axis → Bool
same_axis X X = true
same_axis X Y = false
same_axis X Z = false
same_axis Y X = false
same_axis Y Y = true
same_axis Y Z = false
same_axis Z X = false
same_axis Z Y = false
same_axis Z Z = true

-- whether two cells are one
abbrev pub same_spot : Spot → Spot → Bool
same_spot p q = same_int p.x q.x && (same_int p.y q.y && same_int p.z q.z)

-- a zone has a cell and the next cells up on all axes, and so the twelve edges of the cell
pub record HasEdges (low : Spot) (size : Triple) (c : Spot) : Type 0 where
  pub near : InZone low size c
  pub far : InZone low size (lifted X (lifted Y (lifted Z c)))

-- v at the edge along axis at the cell there, and 0 at every other edge
unfoldable pub at_edge : Axis → Spot → ℤ → Axis → Spot → ℤ
at_edge axis there v a c = if same_axis axis a && same_spot c there then v else pos 0

-- f at the edges along axis, and 0 at the others
unfoldable pub on_axis : Axis → (Spot → ℤ) → Axis → Spot → ℤ
on_axis axis f a c = if same_axis axis a then f c else pos 0

-- the sum of two, edge by edge
unfoldable pub both : (Axis → Spot → ℤ) → (Axis → Spot → ℤ) → Axis → Spot → ℤ
both f g a c = f a c +ℤ g a c

-- four values at the edges along axis round a cell: those low and high on the next axis, and on the
-- third
abbrev pub at_corners : Axis → Spot → ℤ → ℤ → ℤ → ℤ → Axis → Spot → ℤ
at_corners axis c low_low high_low low_high high_high =
    let second = next_axis axis in
    let high = lifted (next_axis second) c in
    both
    (both (at_edge axis c low_low) (at_edge axis (lifted second c) high_low))
    (both (at_edge axis high low_high) (at_edge axis (lifted second high) high_high))

-- the weight of a coordinate p of the closed cell c for the cell's high face (how far p lies above
-- the low one), or for its low face (the rest of the side)
unfoldable pub face_weight : ℕ → Bool → ℤ → ℤ → ℤ
face_weight side true c p = p -ℤ c *ℤ pos side
face_weight side false c p = pos side -ℤ (p -ℤ c *ℤ pos side)

-- the weight of a point of a piece's cell for the cell's high or low face on an axis
abbrev pub weight_of : ℕ → Spot → Bool → Axis → Spot → ℤ
weight_of side cell high a p = face_weight side high (along a cell) (along a p)

-- the flux of a charge q on a piece through the edge along axis at one corner of its cell: high or
-- low on the next axis, and high or low on the third
unfoldable pub corner : ℕ → ℤ → Piece → Axis → Bool → Bool → ℤ
corner side q s axis high_second high_third =
    let second = next_axis axis in
    let third = next_axis second in
    let weight = weight_of side s.cell in
    simpson q (along axis s.to -ℤ along axis s.from)
    (weight high_second second s.from) (weight high_second second s.to)
    (weight high_third third s.from) (weight high_third third s.to)

-- the weights of the four edges along an axis, by those of a piece's ends for the high faces: the
-- integral of the product of two weights over the piece, 12 times
abbrev pub both_high : ℤ → ℤ → ℤ → ℤ → ℤ
both_high a0 a1 b0 b1 = pos 3 *ℤ (a0 +ℤ a1) *ℤ (b0 +ℤ b1) +ℤ (a1 -ℤ a0) *ℤ (b1 -ℤ b0)

unfoldable pub weight_by : ℤ → Bool → Bool → ℤ → ℤ → ℤ → ℤ → ℤ
weight_by side true true a0 a1 b0 b1 = both_high a0 a1 b0 b1
weight_by side true false a0 a1 b0 b1 = pos 6 *ℤ side *ℤ (a0 +ℤ a1) -ℤ both_high a0 a1 b0 b1
weight_by side false true a0 a1 b0 b1 = pos 6 *ℤ side *ℤ (b0 +ℤ b1) -ℤ both_high a0 a1 b0 b1
weight_by side false false a0 a1 b0 b1 =
    pos 6 *ℤ side *ℤ (pos 2 *ℤ side -ℤ (a0 +ℤ a1) -ℤ (b0 +ℤ b1)) +ℤ both_high a0 a1 b0 b1
