-- How large a flux can be where a piece lies in its closed cell.
use Rattle.std.proofs.Common.{◌≡◌, ℕ, ◌+◌, ◌*◌, ◌^◌, ◌<◌, ◌≤◌, to_z, of_z, ap, ◌∙◌, unsigned_abs, List, take, mul-le-mul, arith}
use mir.Syntax.{w32, w64}
use mir.Val.{SFits}
use Rattle.std.proofs.Math.IntN.{ℤ, pos, ◌+ℤ◌, ◌-ℤ◌, ◌*ℤ◌}
use Rattle.std.proofs.Math.Nat.{mul-le-mul_left, mul-le-mul_right, le_trans}
use Rattle.std.specs.Prelude.{◌≤ℤ◌}
use Rattle.std.proofs.lemmas.Int.{ints, unsigned_abs-mul, to_z-of_z}
use Rattle.pic_num.specs.declared.axis.Axis.{Axis}
use Rattle.pic_num.specs.Sizes.{IsAtMost}
use Rattle.pic_num.specs.Space.{Spot, along}
use Rattle.pic_num.proofs.SizeLaws.{codes, code_is}
use Rattle.pic_block.specs.Block.{BlockValues, AllAtMost, edge_at}
use Rattle.pic_grid.specs.Flux.{flux, path_flux}
use Rattle.pic_grid.specs.Segment.{Piece, IsInside, IsInCell}
use Rattle.pic_grid.specs.Ways.{GoAtMost}
use Rattle.pic_grid.proofs.FluxLaws.{flux_size, front_flux_size, way_most, chosen_size}
use Rattle.pic_flux.specs.Adds.{SumsBelow, flux_limit}
use Rattle.pic_flux.specs.Corners.{same_axis, on_axis}

between : (z p : ℤ) (s : ℕ) → z ≤ℤ p → p ≤ℤ (z +ℤ pos s) → unsigned_abs p ≤ 2 ^ 31 → s ≤ 2 ^ 14 → unsigned_abs z ≤ 2 ^ 31 + 2 ^ 14
between z p s h k size few = omega (arith, ints, h, k, size, few)

-- the index of a closed cell with a coordinate of the code
pub cell_small : (side : ℕ) (c p : ℤ) → 256 ≤ side → side ≤ 2 ^ 14 → IsInside side c p → unsigned_abs p ≤ 2 ^ 31 → IsAtMost c (2 ^ 24)
cell_small side c p some few inside size =
    let product : unsigned_abs (c *ℤ pos side) ≡ unsigned_abs c * side = unsigned_abs-mul c (pos side) in
    let least : unsigned_abs c * 256 ≤ unsigned_abs c * side = mul-le-mul_left (unsigned_abs c) some in
    let most = between (c *ℤ pos side) p side inside.low inside.high size few in
    record { size = omega (arith, product, least, most) }

by_way : (side q w : ℕ) → w ≤ side → q * w * (12 * (side * side)) ≤ q * side * (12 * (side * side))
by_way side q w h = mul-le-mul_right (12 * (side * side)) (mul-le-mul_left q h)

-- the flux of a piece in its closed cell
pub flux_most : (side : ℕ) (q : ℤ) (s : Piece) → IsInCell side s → (a : Axis) (c : Spot)
    → unsigned_abs (flux side q s a c) ≤ unsigned_abs q * side * (12 * (side * side))
flux_most side q s inside a c =
    le_trans (flux_size side q s a c) (by_way side (unsigned_abs q) (unsigned_abs (along a s.to -ℤ along a s.from)) (way_most side s inside a))

-- which no charge of the code makes large
pub flux_few : (side q : ℕ) → side ≤ 2 ^ 14 → q ≤ 2 ^ 31 → q * side * (12 * (side * side)) ≤ 2 ^ 77
flux_few side q h k =
    let p : q * side ≤ 2 ^ 31 * 2 ^ 14 = mul-le-mul k h in
    let r : side * side ≤ 2 ^ 14 * 2 ^ 14 = mul-le-mul h h in
    let t : 12 * (side * side) ≤ 12 * 2 ^ 28 = omega (arith, r) in
    let all : q * side * (12 * (side * side)) ≤ 2 ^ 31 * 2 ^ 14 * (12 * 2 ^ 28) = mul-le-mul p t in omega (arith, all)

-- a charge of the code, and as the code widens it
pub charge_small : (q : ℤ) → SFits w32 q → IsAtMost q (2 ^ 31)
charge_small q fits = record { size = omega (arith, ints, fits.sfits) }

-- a coordinate or an index that the code widens
pub widened_is : (x r : ℤ) → SFits w32 x → r ≡ to_z w32 (of_z w32 x) → r ≡ x
widened_is x r fits e = e ∙ to_z-of_z w32 x fits

pub widened_small : (x r : ℤ) → SFits w32 x → r ≡ to_z w32 (of_z w32 x) → IsAtMost r (2 ^ 31)
widened_small x r fits e =
    let small = charge_small x fits in
    let size = small.size in
    let is = widened_is x r fits e in rw is (record { size = size })

pub charge_passed : (q r : ℤ) → SFits w32 q → r ≡ to_z w32 (of_z w32 q) → to_z w64 (of_z w64 r) ≡ q
charge_passed q r h e =
    let size = charge_small q h in
    let widened : to_z w64 (of_z w64 q) ≡ q = code_is (search codes depth 4) tt in
    ap (λ (z : ℤ). to_z w64 (of_z w64 z)) (e ∙ to_z-of_z w32 q h) ∙ widened

pub charge_few : (side : ℕ) (q : ℤ) → side ≤ 2 ^ 14 → SFits w32 q → unsigned_abs q * side * (12 * (side * side)) ≤ 2 ^ 77
charge_few side q few fits = flux_few side (unsigned_abs q) few (charge_small q fits).size

-- nor do four pieces of a deck's charge
pub four_few : (side q : ℕ) → side ≤ 2 ^ 14 → q ≤ 2 ^ 15 → q * (4 * side) * (12 * (side * side)) ≤ 2 ^ 65
four_few side q h k =
    let four : 4 * side ≤ 4 * 2 ^ 14 = omega (arith, h) in
    let p : q * (4 * side) ≤ 2 ^ 15 * (4 * 2 ^ 14) = mul-le-mul k four in
    let r : side * side ≤ 2 ^ 14 * 2 ^ 14 = mul-le-mul h h in
    let t : 12 * (side * side) ≤ 12 * 2 ^ 28 = omega (arith, r) in
    let all : q * (4 * side) * (12 * (side * side)) ≤ 2 ^ 15 * (4 * 2 ^ 14) * (12 * 2 ^ 28) = mul-le-mul p t in omega (arith, all)

-- the part of it along one axis
pub on_axis_most : (side : ℕ) (q : ℤ) (s : Piece) (axis : Axis) → IsInCell side s → (a : Axis) (c : Spot)
    → unsigned_abs (on_axis axis (flux side q s axis) a c) ≤ unsigned_abs q * side * (12 * (side * side))
unfolding on_axis
on_axis_most side q s axis inside a c =
    chosen_size (same_axis axis a) (flux side q s axis c) (unsigned_abs q * side * (12 * (side * side))) (flux_most side q s inside axis c)

sum_below : (x f : ℤ) (n m l : ℕ) → unsigned_abs x ≤ n → unsigned_abs f ≤ m → n + m < l → unsigned_abs (x +ℤ f) < l
sum_below x f n m l h k more = omega (arith, ints)

-- the room for a piece
pub piece_below : (side : ℕ) (old : BlockValues) (q : ℤ) (s : Piece) (n : ℕ) → AllAtMost n old → IsInCell side s
    → n + unsigned_abs q * side * (12 * (side * side)) < flux_limit → SumsBelow old (flux side q s)
piece_below side old q s n room inside few = record {
  at = λ a c z.
      sum_below (edge_at old a c) (flux side q s a c) n (unsigned_abs q * side * (12 * (side * side))) flux_limit
      (room.at_most a c z).size (flux_most side q s inside a c) few;
}

-- the room for a path whose pieces go at most m along an axis
pub fronts_below : (side : ℕ) (old : BlockValues) (q : ℤ) (ss : List Piece) (n m : ℕ) → AllAtMost n old → GoAtMost m ss
    → n + unsigned_abs q * m * (12 * (side * side)) < flux_limit → (k : ℕ) → SumsBelow old (path_flux side q (take k ss))
fronts_below side old q ss n m room short few k = record {
  at = λ a c z.
      sum_below (edge_at old a c) (path_flux side q (take k ss) a c) n (unsigned_abs q * m * (12 * (side * side))) flux_limit
      (room.at_most a c z).size (front_flux_size side q ss a c m k (short a)) few;
}
