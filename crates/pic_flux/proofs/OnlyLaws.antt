-- Tests of places of the line as numbers, and the weights of a point of a cell by the cell's faces.
use Rattle.std.proofs.Common.{◌≡◌, ℕ, Bool, true, false, ◌∙◌, arith}
use Rattle.std.proofs.Math.IntN.{ℤ, pos, ◌+ℤ◌, ◌-ℤ◌, ◌*ℤ◌}
use Rattle.std.specs.Prelude.{if◌then◌else◌}
use Rattle.std.proofs.lemmas.Int.{ints}
use Rattle.pic_grid.specs.Hat.{hat}
use Rattle.pic_grid.specs.Segment.{IsInside}
use Rattle.pic_grid.proofs.TwoHatLaws.{only, two_hats}
use Rattle.pic_flux.specs.Corners.{face_weight}

-- 1 where the test holds, else 0
abbrev pub one : Bool → ℤ
one b = if b then pos 1 else pos 0

-- what a test chooses, as a product
pub if_is : (b : Bool) (v : ℤ) → (if b then v else pos 0) ≡ one b *ℤ v
if_is true v = omega (arith, ints)
if_is false v = omega (arith, ints)

-- a point of the closed cell c has a weight for the cell's two faces, and for no other place
pub face_hats : (s : ℕ) (c j p : ℤ) → IsInside s c p
    → hat s p (j *ℤ pos s) ≡ only c j *ℤ face_weight s false c p +ℤ only (c +ℤ pos 1) j *ℤ face_weight s true c p
unfolding face_weight
face_hats s c j p h =
    let low : c *ℤ pos s +ℤ pos s -ℤ p ≡ pos s -ℤ (p -ℤ c *ℤ pos s) = omega (arith, ints) in
    two_hats s c p j h ∙ (λ i. only c j *ℤ low i +ℤ only (c +ℤ pos 1) j *ℤ (p -ℤ c *ℤ pos s))
