-- Four components on an axis round a cell, of which a block has some, and where they stand.
use Rattle.std.specs.Prelude.{◌≡◌, ℕ, ℤ, pos, ◌^◌, ◌+ℤ◌, ◌-ℤ◌, ◌*ℤ◌, ◌↔◌, Bool, IsTrue, List, slice_index_or, slice_set, if◌then◌else◌}
use Rattle.std.specs.Int.{w64, int_wrap}
use Rattle.pic_num.specs.declared.axis.Axis.{Axis}
use Rattle.pic_num.specs.declared.axis.Axis.TheVariants.{X, Y, Z}
use Rattle.pic_num.specs.Sizes.{IsAtMost}
use Rattle.pic_num.specs.Space.{Triple, Spot, spot, next_axis}
use Rattle.pic_block.specs.Cells.{place_of}
use Rattle.pic_block.specs.Block.{BlockValues, InZone, inner_of}
use Rattle.pic_block.specs.Rows.{lifted}
use Rattle.pic_block.specs.declared.base.Base.{Base}
use Rattle.pic_block.specs.declared.fours.Four.{Four}
use Rattle.pic_block.specs.declared.fours.Found.{Found}

-- the number of the place of the component on x at a cell, were the zone to have it
abbrev pub number_from : Spot → Triple → Spot → ℤ
number_from low n c =
    (c.z -ℤ low.z) *ℤ (pos n.x *ℤ pos n.y) +ℤ (c.y -ℤ low.y) *ℤ pos n.x +ℤ (c.x -ℤ low.x)

-- the cell that is told of
abbrev pub base_cell : Base → Spot
base_cell b = spot b.cell

-- what is held of a cell for a zone, each number in 64 bits: that number, and how many places the
-- zone has for a component in a row, in a layer, and in all
pub record IsBase (low : Spot) (n : Triple) (b : Base) : Type 0 where
  pub here : b.here ≡ int_wrap w64 (number_from low n (base_cell b))
  pub row : b.row ≡ int_wrap w64 (pos n.x)
  pub layer : b.layer ≡ int_wrap w64 (pos n.x *ℤ pos n.y)
  pub count : b.count ≡ int_wrap w64 (pos n.x *ℤ pos n.y *ℤ pos n.z)

-- the number on an axis that it tells of the cell, in 64 bits, and how far the next cell up is
abbrev pub base_number : Base → Axis → ℤ
base_number b X = b.here
base_number b Y = int_wrap w64 (b.here +ℤ b.count)
base_number b Z = int_wrap w64 (int_wrap w64 (b.here +ℤ b.count) +ℤ b.count)

abbrev pub step_by : Base → Axis → ℤ
step_by b X = pos 1
step_by b Y = b.row
step_by b Z = b.layer

-- what is carried along an axis is at most 2^45 in size, and a weight at most 2^35
abbrev pub most_carried : ℕ
most_carried = 2 ^ 45

abbrev pub most_of_weight : ℕ
most_of_weight = 2 ^ 35

-- so what is added to a component is at most 2^80, and the component itself at most 2^110
abbrev pub most_of_four : ℕ
most_of_four = 2 ^ 80

abbrev pub most_before_four : ℕ
most_before_four = 2 ^ 110

-- what is carried and four weights, of those sizes
pub record AreSmall (f : Four) : Type 0 where
  pub by : IsAtMost f.by most_carried
  pub low_low : IsAtMost f.low_low most_of_weight
  pub high_low : IsAtMost f.high_low most_of_weight
  pub low_high : IsAtMost f.low_high most_of_weight
  pub high_high : IsAtMost f.high_high most_of_weight

-- which of the four edges along axis round a cell a zone has
pub record AreFound (low : Spot) (size : Triple) (axis : Axis) (c : Spot) (f : Found) : Type 0 where
  pub low_low : IsTrue f.low_low ↔ InZone low size c
  pub high_low : IsTrue f.high_low ↔ InZone low size (lifted (next_axis axis) c)
  pub low_high : IsTrue f.low_high ↔ InZone low size (lifted (next_axis (next_axis axis)) c)
  pub high_high :
      IsTrue f.high_high
      ↔ InZone low size (lifted (next_axis axis) (lifted (next_axis (next_axis axis)) c))

-- v added to the number at a place of a list, where a test holds
unfoldable pub added_in : Bool → List ℤ → ℕ → ℤ → List ℤ
added_in found xs p v =
    if found then slice_set xs p (slice_index_or xs p (pos 0) +ℤ v) else xs

-- the block with v added to the component on an axis at a cell, where a test holds
abbrev pub added_where : Bool → BlockValues → Axis → Spot → ℤ → BlockValues
added_where found b a c v =
    record b { values = added_in found b.values (place_of b.size a (inner_of b.low c)) v }

-- what is carried times four weights added to the components on an axis, of those that are found:
-- at a cell, at the next cell up the axis after that one (high_low), up the axis after both
-- (low_high), and up both
abbrev pub four_added : BlockValues → Axis → Spot → Found → Four → BlockValues
four_added b a c found f =
    let second = next_axis a in
    let third = next_axis second in
    let one = added_where found.low_low b a c (f.by *ℤ f.low_low) in
    let two = added_where found.high_low one a (lifted second c) (f.by *ℤ f.high_low) in
    let three = added_where found.low_high two a (lifted third c) (f.by *ℤ f.low_high) in
    added_where found.high_high three a (lifted second (lifted third c)) (f.by *ℤ f.high_high)
