-- Tests of indices of the line as numbers, and the cell of a coordinate.
use Rattle.std.proofs.Common.{◌≡◌, ℕ, ◌<◌, true, unsigned_abs, arith}
use Rattle.std.proofs.Math.IntN.{ℤ, pos, ◌+ℤ◌, ◌-ℤ◌, ◌*ℤ◌}
use Rattle.std.proofs.lemmas.Bool.{eqb-true, eq-eqb}
use Rattle.std.proofs.lemmas.Int.{ints}
use Rattle.std.specs.Prelude.{◌<ℤ◌, ◌≤ℤ◌}
use Rattle.pic_num.proofs.RoundingLaws.{floor-lower, floor-upper}
use Rattle.pic_grid.specs.Path.{same_int, floor_of}

-- equal numbers pass the test
pub same_int-same : (i j : ℤ) → i ≡ j → same_int i j ≡ true
unfolding same_int
same_int-same i j e = eq-eqb (unsigned_abs (i -ℤ j)) 0 (omega (arith, ints))

-- numbers that pass it are equal
pub same_int-true : (i j : ℤ) → same_int i j ≡ true → i ≡ j
unfolding same_int
same_int-true i j e = let h = eqb-true (unsigned_abs (i -ℤ j)) 0 e in omega (arith, ints)

-- the cell of a coordinate: at most the side of a cell below it
pub floor_low : (side : ℕ) (p : ℤ) → 0 < side → (floor_of side p *ℤ pos side) ≤ℤ p
unfolding floor_of
floor_low side p some = floor-lower p (pos side) (omega (arith, ints, some))

pub floor_high : (side : ℕ) (p : ℤ) → 0 < side → p <ℤ (floor_of side p *ℤ pos side +ℤ pos side)
unfolding floor_of
floor_high side p some = floor-upper p (pos side) (omega (arith, ints, some))
