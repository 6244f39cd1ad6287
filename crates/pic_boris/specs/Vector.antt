-- The vectors that the push computes with.
use Rattle.pic_num.specs.Space.{Spot}
use Rattle.pic_boris.specs.declared.vector.Vector.{Vector}

-- what a vector of the code stands for
abbrev pub spot_of : Vector → Spot
spot_of p = record { x = p.x; y = p.y; z = p.z }
