use Rattle.std.proofs.Common.{◌<◌, ℕ, pos}
use Rattle.pic_advance.specs.Blocks.{block_in, IsMade}
use Rattle.pic_advance.proofs.driving.are_blank.Given as goal

-- the blocks before i have no component but 0
abbrev pub invariant-loop-i : goal.invariant-loop-i
invariant-loop-i l = (k : ℕ) → k < l.i → IsMade (λ a p. pos 0) (block_in l.blocks k) (block_in l.blocks k)
