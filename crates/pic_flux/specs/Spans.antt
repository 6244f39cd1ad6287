-- What a piece's flux through the edges of its cell is made of (J. Villasenor and O. Buneman,
-- Comput. Phys. Commun. 69, 1992, 306): on each axis the weights of its ends for the cell's high
-- face, and how far it goes.
use Rattle.std.specs.Prelude.{◌≡◌, ℕ, ℤ, pos, ◌*◌, ◌^◌, ◌+ℤ◌, ◌-ℤ◌, ◌*ℤ◌, true}
use Rattle.pic_num.specs.Limits.{most_side}
use Rattle.pic_num.specs.declared.axis.Axis.{Axis}
use Rattle.pic_num.specs.declared.axis.Axis.TheVariants.{X, Y, Z}
use Rattle.pic_num.specs.Sizes.{IsAtMost}
use Rattle.pic_num.specs.Space.{along, next_axis}
use Rattle.pic_block.specs.declared.fours.Four.{Four}
use Rattle.pic_grid.specs.Segment.{Piece}
use Rattle.pic_flux.specs.Corners.{weight_of}
use Rattle.pic_flux.specs.declared.spans.Ends.{Ends}
use Rattle.pic_flux.specs.declared.spans.Spans.{Spans}

-- on one axis: the weights of both ends added up, the way between them, and six sides of a cell
-- times that sum
pub record AreSpanEnds (side : ℕ) (s : Piece) (axis : Axis) (e : Ends) : Type 0 where
  pub sum :
      e.sum ≡ weight_of side s.cell true axis s.from +ℤ weight_of side s.cell true axis s.to
  pub way : e.way ≡ along axis s.to -ℤ along axis s.from
  pub part : e.part ≡ pos 6 *ℤ pos side *ℤ e.sum

-- on all three, and the weight of all four edges along an axis together
pub record AreSpans (side : ℕ) (s : Piece) (p : Spans) : Type 0 where
  pub x : AreSpanEnds side s X p.x
  pub y : AreSpanEnds side s Y p.y
  pub z : AreSpanEnds side s Z p.z
  pub whole : p.whole ≡ pos 12 *ℤ pos side *ℤ pos side

-- numbers of a size that products of them have room for
pub record AreShort (e : Ends) : Type 0 where
  pub sum : IsAtMost e.sum (2 ^ 15)
  pub way : IsAtMost e.way most_side
  pub part : IsAtMost e.part (3 * 2 ^ 30)

pub record IsShort (p : Spans) : Type 0 where
  pub x : AreShort p.x
  pub y : AreShort p.y
  pub z : AreShort p.z
  pub whole : IsAtMost p.whole (3 * 2 ^ 30)

-- those of an axis
abbrev pub ends_on : Spans → Axis → Ends
ends_on p X = p.x
ends_on p Y = p.y
ends_on p Z = p.z

-- the weight of the edge that is high on two axes, 12 times
abbrev pub both_of : Ends → Ends → ℤ
both_of a b = pos 3 *ℤ a.sum *ℤ b.sum +ℤ a.way *ℤ b.way

-- what a charge q carries along an axis, and the weights of the four edges there, 12 times
abbrev pub four_by : Spans → ℤ → Axis → Four
four_by p q axis =
    let a = ends_on p (next_axis axis) in
    let b = ends_on p (next_axis (next_axis axis)) in
    let both = both_of a b in
    record {
      by = q *ℤ (ends_on p axis).way;
      low_low = p.whole -ℤ (a.part -ℤ both) -ℤ (b.part -ℤ both) -ℤ both;
      high_low = a.part -ℤ both;
      low_high = b.part -ℤ both;
      high_high = both;
    }
