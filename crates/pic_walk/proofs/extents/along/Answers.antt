use Rattle.std.proofs.Common.{ℕ, ◌≤◌, ◌*◌, arith}
use Rattle.std.proofs.Math.Nat.{mul-le-mul}
use Rattle.pic_num.specs.Limits.{most_cells_of_axis, least_side, most_side}
use Rattle.pic_walk.specs.Extent.{most_extent}
use Rattle.pic_walk.proofs.extents.along.Goals as goal

some_of : (n s : ℕ) → 1 ≤ n → least_side ≤ s → 1 ≤ n * s
some_of n s some least = omega (arith, mul-le-mul some least)

most_of : (n s : ℕ) → n ≤ most_cells_of_axis → s ≤ most_side → n * s ≤ most_extent
most_of n s few most = mul-le-mul few most

pub overflow_mul-result : goal.overflow_mul-result
overflow_mul-result c = rw c.side.ensures.value (omega (arith, most_of _ _ c.requires.few c.side.ensures.most))

pub returns-clause-some : goal.returns-clause-some
returns-clause-some c = rw c.side.ensures.value (some_of _ _ c.requires.some c.side.ensures.least)

pub returns-clause-most : goal.returns-clause-most
returns-clause-most c = rw c.side.ensures.value (most_of _ _ c.requires.few c.side.ensures.most)
