use Rattle.std.proofs.Common.{◌≡◌, ◌<◌, ℕ, length, get_or}
use Rattle.std.proofs.Math.IntN.{pos}
use Rattle.pic_block.proofs.block.zero.Given as goal

-- the numbers so far are 0
abbrev pub invariant-loop-i : goal.invariant-loop-i
invariant-loop-i l = record {
  long : length l.values ≡ length l.initial.values;
  zeros : (k : ℕ) → k < l.i → get_or l.values k (pos 0) ≡ pos 0;
}
