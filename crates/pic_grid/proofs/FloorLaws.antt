-- The cell of a coordinate after a move of at most the side of a cell.
use Rattle.std.proofs.Common.{◌≡◌, ℕ, ◌/◌, ◌<◌, ◌≤◌, refl, ap, arith}
use Rattle.std.proofs.Math.IntN.{ℤ, pos, ◌+ℤ◌, ◌-ℤ◌, ◌*ℤ◌}
use Rattle.std.specs.Prelude.{◌≤ℤ◌, unsigned_abs}
use Rattle.std.proofs.lemmas.Int.{ints, by_lt_z}
use Rattle.pic_grid.specs.Path.{floor_of}
use Rattle.pic_grid.proofs.PathLaws.{floor_low, floor_high}
use Rattle.pic_grid.proofs.TwoHatLaws.{next_times, further_times}

-- the cell of a position of the box
pub floor_is : (side p : ℕ) → floor_of side (pos p) ≡ pos (p / side)
unfolding floor_of
floor_is side p = refl

-- a move of at most a side leads at most to the next cell
pub floors_next : (side : ℕ) (p d : ℤ) → 0 < side → unsigned_abs d ≤ side
    → ((floor_of side p -ℤ pos 1) ≤ℤ floor_of side (p +ℤ d)) × (floor_of side (p +ℤ d) ≤ℤ (floor_of side p +ℤ pos 1))
floors_next side p d some small = (not_under, not_over)
  where
    not_under : (floor_of side p -ℤ pos 1) ≤ℤ floor_of side (p +ℤ d)
    not_under =
        by_lt_z (floor_of side (p +ℤ d)) (floor_of side p -ℤ pos 1)
        (λ k.
        let t = further_times side (floor_of side (p +ℤ d)) (floor_of side p -ℤ pos 1) k in
        let e = next_times side (floor_of side p -ℤ pos 1) in
        let is : floor_of side p -ℤ pos 1 +ℤ pos 1 ≡ floor_of side p = omega (arith, ints) in
        let f = ap (λ (c : ℤ). c *ℤ pos side) is in
        let h = floor_high side (p +ℤ d) some in
        let l = floor_low side p some in absurd (omega (arith, ints, t, e, f, h, l, small)))
        (λ k. k)

    not_over : floor_of side (p +ℤ d) ≤ℤ (floor_of side p +ℤ pos 1)
    not_over =
        by_lt_z (floor_of side p +ℤ pos 1) (floor_of side (p +ℤ d))
        (λ k.
        let t = further_times side (floor_of side p +ℤ pos 1) (floor_of side (p +ℤ d)) k in
        let e = next_times side (floor_of side p) in
        let h = floor_high side p some in
        let l = floor_low side (p +ℤ d) some in absurd (omega (arith, ints, t, e, h, l, small)))
        (λ k. k)
