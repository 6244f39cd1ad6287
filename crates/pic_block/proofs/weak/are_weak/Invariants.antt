use Rattle.std.proofs.Common.{ℕ, pos, ◌*◌, ◌<◌, slice_index_or, of_z}
use mir.Syntax.{w128}
use Rattle.pic_num.specs.Sizes.{IsAtMost}
use Rattle.pic_block.specs.Weak.{most_weak}
use Rattle.pic_block.proofs.weak.are_weak.Given as goal

-- the values so far are weak, where no bit is set from the 27th on
abbrev pub invariant-loop-i : goal.invariant-loop-i
invariant-loop-i l = of_z w128 l.bits < 2 * most_weak → (k : ℕ) → k < l.i → IsAtMost (slice_index_or l.fn.values k (pos 0)) most_weak
