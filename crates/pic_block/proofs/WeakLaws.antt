-- A weak value's bits, raised by the greatest size of one, are few.
use Rattle.std.proofs.Common.{ℕ, ℤ, pos, negsuc, ◌+◌, ◌*◌, ◌%◌, ◌^◌, ◌<◌, of_z, arith}
use mir.Syntax.{w128}
use mir.Val.{SFits}
use Rattle.pic_num.specs.Sizes.{IsAtMost}
use Rattle.pic_block.specs.Weak.{most_weak}

-- the bits of a value, with the greatest size of a weak one added
abbrev pub raised : ℤ → ℕ
raised v = (of_z w128 v + most_weak) % 2 ^ 128

-- where they are few, it is weak
pub weak_of_raised : (v : ℤ) → SFits w128 v → raised v < 2 * most_weak → IsAtMost v most_weak
weak_of_raised (pos n) fits few = record { size = omega (arith, few, fits.sfits) }
weak_of_raised (negsuc n) fits few = record { size = omega (arith, few, fits.sfits) }
