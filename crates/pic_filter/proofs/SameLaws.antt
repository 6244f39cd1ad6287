-- What the filter makes of numbers depends on those of the grid's cells alone.
use Rattle.std.proofs.Common.{◌≡◌, ℤ}
use Rattle.pic_num.specs.declared.axis.Axis.{Axis}
use Rattle.pic_num.specs.declared.axis.Axis.TheVariants.{X, Y, Z}
use Rattle.pic_num.specs.Space.{Triple}
use Rattle.pic_block.specs.Cells.{IsWithin}
use Rattle.pic_grid.specs.Differences.{up, down}
use Rattle.pic_filter.specs.Smoothing.{weighted, smoothed_along, smoothed}
use Rattle.pic_filter.proofs.SizeLaws.{up_within, down_within}

-- two functions agree at every cell
abbrev pub AreSame : Triple → (Triple → ℤ) → (Triple → ℤ) → Type 0
AreSame n f g = (p : Triple) → IsWithin p n → f p ≡ g p

along_same : (a : Axis) (n : Triple) (f g : Triple → ℤ) → AreSame n f g → AreSame n (smoothed_along a n f) (smoothed_along a n g)
unfolding smoothed_along
along_same a n f g same p within =
    let last = same (down n a p) (down_within n a p within) in
    let own = same p within in
    let next = same (up n a p) (up_within n a p within) in
    λ i. weighted (last i) (own i) (next i)

pub smoothed_same : (n : Triple) (f g : Triple → ℤ) → AreSame n f g → AreSame n (smoothed n f) (smoothed n g)
unfolding smoothed
smoothed_same n f g same =
    along_same Z n (smoothed_along Y n (smoothed_along X n f)) (smoothed_along Y n (smoothed_along X n g))
    (along_same Y n (smoothed_along X n f) (smoothed_along X n g) (along_same X n f g same))
