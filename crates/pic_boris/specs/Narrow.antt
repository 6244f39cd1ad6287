-- The vectors of 64 bits that the push computes with where its numbers are small.
use Rattle.pic_num.specs.Space.{Spot}
use Rattle.pic_boris.specs.declared.narrow.Narrow.{Narrow}

-- what such a vector stands for
abbrev pub narrow_spot : Narrow → Spot
narrow_spot p = record { x = p.x; y = p.y; z = p.z }
