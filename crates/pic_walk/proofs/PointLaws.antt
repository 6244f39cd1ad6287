-- The particles of a deck beside the numbers that they are read from.
use Rattle.std.proofs.Common.{◌≡◌, ℕ, ◌*◌, ◌<◌, ◌≤◌, ◌^◌, [], ◌∷◌, List, lit<, arith, get_or, slice_index_or}
use Rattle.std.proofs.Math.IntN.{ℤ, pos}
use Rattle.std.specs.Prelude.{unsigned_abs}
use Rattle.std.proofs.lemmas.Int.{ints, to_z-of_z, fits_signed_from_abs}
use mir.Syntax.{w32, w64}
use mir.Val.{SFits, to_z, of_z}
use Rattle.pic_num.specs.declared.axis.Axis.TheVariants.{X, Y, Z}
use Rattle.pic_num.specs.declared.axis.Axis.{Axis}
use Rattle.pic_num.specs.Sizes.{IsAtMost}
use Rattle.pic_num.specs.Space.{along, spot}
use Rattle.pic_num.specs.Limits.{most_side}
use Rattle.pic_block.specs.Cells.{Grid}
use Rattle.pic_walk.specs.Extent.{extent_of, most_extent, IsExtent}
use Rattle.pic_walk.specs.Bounds.{fastest}
use Rattle.pic_walk.specs.Limits.{MeetsLimits, limits_at, below}
use Rattle.pic_walk.specs.declared.point6.Point6.{Point6}
use Rattle.pic_walk.specs.Points.{IsPoint, speed_limits, point_limits, point_of}

abbrev pub AreInside : Grid → List ℤ → Type 0
AreInside g zs = (k : ℕ) → k < 6 → MeetsLimits (limits_at (point_limits g) k) (slice_index_or zs k (pos 0))

-- what the code makes of a position
abbrev pub as_place : ℤ → ℕ
as_place z = unsigned_abs (to_z w64 (of_z w64 z))

-- and of a velocity
abbrev pub as_speed : ℤ → ℤ
as_speed z = to_z w32 (of_z w32 (to_z w64 (of_z w64 z)))

kept_place : (m : ℕ) (z : ℤ) → m ≤ most_extent → MeetsLimits (below m) z → to_z w64 (of_z w64 z) ≡ z
kept_place m z small inside =
    let size : unsigned_abs z < 2 ^ 63 = omega (arith, ints, inside.low, inside.high, small) in
    to_z-of_z w64 z (fits_signed_from_abs w64 z size)

-- what the code makes of a number of 32 bits
pub kept_small : (z : ℤ) → unsigned_abs z < 2 ^ 31 → as_speed z ≡ z
kept_small z size =
    let larger : unsigned_abs z < 2 ^ 63 = omega (arith, size) in
    let wide : SFits w64 z = fits_signed_from_abs w64 z larger in
    let fits : SFits w32 z = fits_signed_from_abs w32 z size in
    rw (to_z-of_z w64 z wide) (to_z-of_z w32 z fits)

kept_speed : (side : ℕ) (z : ℤ) → side ≤ most_side → MeetsLimits (speed_limits side) z → as_speed z ≡ z
kept_speed side z small inside = kept_small z (omega (arith, ints, inside.low, inside.high, small))

place_below : (m : ℕ) (z : ℤ) → 1 ≤ m → MeetsLimits (below m) z → unsigned_abs z < m
place_below m z some inside = omega (arith, ints, inside.low, inside.high, some)

speed_size : (side : ℕ) (z : ℤ) → MeetsLimits (speed_limits side) z → IsAtMost z (fastest side)
speed_size side z inside = record { size = omega (arith, ints, inside.low, inside.high) }

-- the particle that the code makes of six numbers
abbrev pub made : List ℤ → Point6
made zs = record {
  x = as_place (get_or zs 0 (pos 0)) ∷ as_place (get_or zs 1 (pos 0)) ∷ as_place (get_or zs 2 (pos 0)) ∷ [];
  v = as_speed (get_or zs 3 (pos 0)) ∷ as_speed (get_or zs 4 (pos 0)) ∷ as_speed (get_or zs 5 (pos 0)) ∷ [];
}

pub point_is : (g : Grid) (zs : List ℤ) → IsExtent (extent_of g) → g.side ≤ most_side → AreInside g zs → made zs ≡ point_of zs
unfolding limits_at
point_is g zs extent small inside =
    rw (
      kept_place (g.n.x * g.side) (get_or zs 0 (pos 0)) extent.x_most (inside 0 (lit< tt)),
      kept_place (g.n.y * g.side) (get_or zs 1 (pos 0)) extent.y_most (inside 1 (lit< tt)),
      kept_place (g.n.z * g.side) (get_or zs 2 (pos 0)) extent.z_most (inside 2 (lit< tt)),
      kept_speed g.side (get_or zs 3 (pos 0)) small (inside 3 (lit< tt)),
      kept_speed g.side (get_or zs 4 (pos 0)) small (inside 4 (lit< tt)),
      kept_speed g.side (get_or zs 5 (pos 0)) small (inside 5 (lit< tt)),
    )

speeds : (side : ℕ) (zs : List ℤ) (a : Axis) → MeetsLimits (speed_limits side) (get_or zs 3 (pos 0))
    → MeetsLimits (speed_limits side) (get_or zs 4 (pos 0)) → MeetsLimits (speed_limits side) (get_or zs 5 (pos 0))
    → IsAtMost (along a (spot (point_of zs).v)) (fastest side)
speeds side zs X x y z = speed_size side _ x
speeds side zs Y x y z = speed_size side _ y
speeds side zs Z x y z = speed_size side _ z

pub point_within : (g : Grid) (zs : List ℤ) → IsExtent (extent_of g) → AreInside g zs → IsPoint g (point_of zs)
unfolding limits_at
point_within g zs extent inside =
    record {
      place = record {
        x = place_below (g.n.x * g.side) _ extent.x_some (inside 0 (lit< tt));
        y = place_below (g.n.y * g.side) _ extent.y_some (inside 1 (lit< tt));
        z = place_below (g.n.z * g.side) _ extent.z_some (inside 2 (lit< tt));
      };
      speed = λ a. speeds g.side zs a (inside 3 (lit< tt)) (inside 4 (lit< tt)) (inside 5 (lit< tt));
    }
