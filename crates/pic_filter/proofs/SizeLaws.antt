-- How large filtered numbers can be.
use Rattle.std.proofs.Common.{◌≡◌, ℕ, ◌*◌, to_z, of_z, sym, ◌∙◌, subst, lit≤, arith}
use Rattle.std.proofs.Math.IntN.{ℤ}
use Rattle.std.proofs.lemmas.Int.{ints}
use Rattle.std.proofs.lemmas.Nat.{mod_below}
use mir.Syntax.{w128}
use Rattle.pic_num.specs.declared.axis.Axis.{Axis}
use Rattle.pic_num.specs.declared.axis.Axis.TheVariants.{X, Y, Z}
use Rattle.pic_num.specs.Sizes.{IsAtMost}
use Rattle.pic_num.specs.Space.{Triple}
use Rattle.pic_num.proofs.SizeLaws.{codes, code_is, at_most_more}
use Rattle.pic_block.specs.Cells.{IsWithin}
use Rattle.pic_grid.specs.Differences.{up, down}
use Rattle.pic_filter.specs.Runs.{most_across}
use Rattle.pic_filter.specs.Smoothing.{weighted, smoothed_along, smoothed, most_to_smooth, most_smoothed}

-- the neighbours of a cell are cells
pub up_within : (n : Triple) (a : Axis) (p : Triple) → IsWithin p n → IsWithin (up n a p) n
up_within n X p h = record { x = mod_below _ n.x (omega (arith, h.x)); y = h.y; z = h.z }
up_within n Y p h = record { x = h.x; y = mod_below _ n.y (omega (arith, h.y)); z = h.z }
up_within n Z p h = record { x = h.x; y = h.y; z = mod_below _ n.z (omega (arith, h.z)) }

pub down_within : (n : Triple) (a : Axis) (p : Triple) → IsWithin p n → IsWithin (down n a p) n
down_within n X p h = record { x = mod_below _ n.x (omega (arith, h.x)); y = h.y; z = h.z }
down_within n Y p h = record { x = h.x; y = mod_below _ n.y (omega (arith, h.y)); z = h.z }
down_within n Z p h = record { x = h.x; y = h.y; z = mod_below _ n.z (omega (arith, h.z)) }

-- three numbers by their weights are at most four times as large
pub weighted_small : (most : ℕ) (last own next : ℤ) → IsAtMost last most → IsAtMost own most → IsAtMost next most
    → IsAtMost (weighted last own next) (4 * most)
weighted_small most last own next h k l =
    let a = h.size in
    let b = k.size in
    let c = l.size in
    record { size = omega (arith, ints, a, b, c) }

-- every number of a grid is at most most in size
abbrev pub EachSmall : Triple → (Triple → ℤ) → ℕ → Type 0
EachSmall n g most = (p : Triple) → IsWithin p n → IsAtMost (g p) most

pub along_small : (a : Axis) (n : Triple) (g : Triple → ℤ) (most : ℕ) → EachSmall n g most → EachSmall n (smoothed_along a n g) (4 * most)
unfolding smoothed_along
along_small a n g most small p w =
    weighted_small most (g (down n a p)) (g p) (g (up n a p)) (small (down n a p) (down_within n a p w)) (small p w) (small (up n a p) (up_within n a p w))

-- what the filter makes of numbers is at most 64 times as large
pub smoothed_small : (n : Triple) (g : Triple → ℤ) (most : ℕ) → EachSmall n g most → EachSmall n (smoothed n g) (4 * (4 * (4 * most)))
unfolding smoothed
smoothed_small n g most small =
    along_small Z n _ (4 * (4 * most)) (along_small Y n _ (4 * most) (along_small X n g most small))

-- a number that is no larger is held as it is
pub held : (v : ℤ) → IsAtMost v most_smoothed → to_z w128 (of_z w128 v) ≡ v
held v small = code_is (search codes depth 6) tt

pub held_across : (v : ℤ) → IsAtMost v most_across → to_z w128 (of_z w128 v) ≡ v
held_across v small = code_is (search codes depth 6) tt

-- a number is filtered by its neighbours
pub along_is : (a : Axis) (n : Triple) (g : Triple → ℤ) (p : Triple) (last own next all : ℤ) → all ≡ weighted last own next
    → last ≡ g (down n a p) → own ≡ g p → next ≡ g (up n a p) → all ≡ smoothed_along a n g p
unfolding smoothed_along
along_is a n g p last own next all is at_last at_own at_next = is ∙ (λ i. weighted (at_last i) (at_own i) (at_next i))

-- so is what is read of a grid of small numbers
pub read : (n : Triple) (g : Triple → ℤ) (p : Triple) (v : ℤ) → EachSmall n g most_to_smooth → IsWithin p n → v ≡ g p → to_z w128 (of_z w128 v) ≡ g p
read n g p v small w at =
    held v (at_most_more v most_to_smooth most_smoothed (lit≤ tt) (subst (λ (u : ℤ). IsAtMost u most_to_smooth) (sym at) (small p w))) ∙ at
