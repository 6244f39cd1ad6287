-- A sum that a loop adds up part by part.
use Rattle.std.proofs.Common.{◌≡◌, ℕ, ◌+◌, ◌*◌, ◌<◌, ◌≤◌, ◌^◌, ap, subst, sym, refl, ◌∙◌, arith}
use Rattle.std.proofs.Math.IntN.{ℤ, pos, ◌+ℤ◌, ◌*ℤ◌}
use Rattle.std.proofs.lemmas.Int.{ints, to_z-of_z, fits_signed_from_abs}
use mir.Syntax.{w128}
use mir.Val.{SFits, to_z, of_z}
use Rattle.pic_num.proofs.SizeLaws.{code_is, codes, times_at_most}
use Rattle.pic_num.specs.Limits.{most_cells_of_axis}
use Rattle.pic_num.specs.Sizes.{IsAtMost}
use Rattle.pic_grid.specs.Sums.{sum_below}
use Rattle.pic_grid.proofs.SumLaws.{sum_below_more, cube_is}

-- the total is the sum of f below n, and each part is at most `most` in size
pub record IsSumOf (f : ℕ → ℤ) (n most : ℕ) (total : ℤ) : Type 0 where
  pub value : total ≡ sum_below n f
  pub size : IsAtMost total (n * most)

pub none_added : (f : ℕ → ℤ) (most : ℕ) → IsSumOf f 0 most (pos 0)
unfolding sum_below
none_added f most = record { value = refl; size = record { size = omega arith } }

more_is : (f : ℕ → ℤ) (n most : ℕ) (total part : ℤ) → IsSumOf f n most total → part ≡ f n → IsAtMost part most
    → IsSumOf f (n + 1) most (total +ℤ part)
more_is f n most total part so_far is small =
    let here = so_far.value in
    let more = sum_below_more f n in
    let old = so_far.size.size in
    let new = small.size in
    record { value = (λ i. here i +ℤ is i) ∙ sym more; size = record { size = omega (arith, ints, old, new) } }

-- one part more, as the code adds it up
pub one_more : (f : ℕ → ℤ) (n most : ℕ) (total part : ℤ) → IsSumOf f n most total → part ≡ f n → IsAtMost part most
    → n < most_cells_of_axis
    → most ≤ 2 ^ 100
    → IsSumOf f (n + 1) most (to_z w128 (of_z w128 (total +ℤ to_z w128 (of_z w128 part))))
one_more f n most total part so_far is small few low =
    let both = more_is f n most total part so_far is small in
    let size = both.size.size in
    let part_size = small.size in
    let part_fits : SFits w128 part = fits_signed_from_abs w128 part (omega (arith, part_size, low)) in
    let room : (n + 1) * most ≤ most_cells_of_axis * 2 ^ 100 = times_at_most (n + 1) most most_cells_of_axis (2 ^ 100) (omega (arith, few)) low in
    let fits : SFits w128 (total +ℤ part) = fits_signed_from_abs w128 (total +ℤ part) (omega (arith, size, room)) in
    let plain : to_z w128 (of_z w128 (total +ℤ to_z w128 (of_z w128 part))) ≡ total +ℤ part =
    ap (λ (t : ℤ). to_z w128 (of_z w128 (total +ℤ t))) (to_z-of_z w128 part part_fits) ∙ to_z-of_z w128 (total +ℤ part) fits in
    subst (IsSumOf f (n + 1) most) (sym plain) both

-- the cube of a side, as the code multiplies it
pub cube : (s : ℕ) (x : ℤ) → x ≡ pos s → s ≤ 2 ^ 14
    → to_z w128 (of_z w128 (to_z w128 (of_z w128 (to_z w128 (of_z w128 x) *ℤ to_z w128 (of_z w128 x))) *ℤ to_z w128 (of_z w128 x)))
    ≡ pos (s ^ 3)
cube s x is small =
    ap (λ (t : ℤ). to_z w128 (of_z w128 (to_z w128 (of_z w128 (to_z w128 (of_z w128 t) *ℤ to_z w128 (of_z w128 t))) *ℤ to_z w128 (of_z w128 t)))) is
    ∙ plain s (record { size = small })
    ∙ ap pos (cube_is s)
  where
    plain : (s : ℕ) → IsAtMost (pos s) (2 ^ 14)
        → to_z w128 (of_z w128 (to_z w128 (of_z w128 (to_z w128 (of_z w128 (pos s)) *ℤ to_z w128 (of_z w128 (pos s)))) *ℤ to_z w128 (of_z w128 (pos s))))
        ≡ pos s *ℤ pos s *ℤ pos s
    plain s small = code_is (search codes depth 18) tt
