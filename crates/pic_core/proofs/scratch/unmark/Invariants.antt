use Rattle.std.proofs.Common.{◌≡◌, ◌<◌, ℕ, length, get_or, false}
use Rattle.pic_core.proofs.scratch.unmark.Given as goal

abbrev pub invariant-loop-i : goal.invariant-loop-i
invariant-loop-i l = record {
  long : length l.marks ≡ length l.initial.marks;
  unset : (k : ℕ) → k < l.i → get_or l.marks k false ≡ false;
}
