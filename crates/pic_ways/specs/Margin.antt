-- A block over the box of cells with a margin, which has all that paths from the box carry: they leave it
-- by at most a cell.
use Rattle.std.specs.Prelude.{ℕ, ℤ, pos, negsuc, ◌+◌, ◌+ℤ◌, Bool, ◌&&◌, int_le, int_lt, if◌then◌else◌}
use Rattle.pic_num.specs.declared.axis.Axis.{Axis}
use Rattle.pic_num.specs.Space.{Triple, Spot}
use Rattle.pic_block.specs.Block.{BlockValues, edge_at}

-- the zone of the box of n cells and its margin: one layer below the box and two above it on each axis
abbrev pub margin_low : Spot
margin_low = record { x = negsuc 0; y = negsuc 0; z = negsuc 0 }

abbrev pub margin_size : Triple → Triple
margin_size n = record { x = n.x + 3; y = n.y + 3; z = n.z + 3 }

-- whether c is one of so many layers from low on
unfoldable pub has_layer : ℤ → ℕ → ℤ → Bool
has_layer low size c = int_le low c && int_lt c (low +ℤ pos size)

-- whether a zone has a cell
abbrev pub has_cell : Spot → Triple → Spot → Bool
has_cell low size c = has_layer low.x size.x c.x && (has_layer low.y size.y c.y && has_layer low.z size.z c.z)

-- the component of a block at an edge, which isn't wrapped; 0 where the block doesn't have it
unfoldable pub edge_or_zero : BlockValues → Axis → Spot → ℤ
edge_or_zero b a c = if has_cell b.low b.size c then edge_at b a c else pos 0
