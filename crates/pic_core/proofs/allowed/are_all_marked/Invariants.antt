use Rattle.std.proofs.Common.{◌≡◌, ℕ, ◌<◌, true}
use Rattle.pic_tile.specs.CoreState.{mark, slot_of}
use Rattle.pic_core.proofs.allowed.are_all_marked.Given as goal

abbrev pub invariant-loop-d : goal.invariant-loop-d
invariant-loop-d l = (d : ℕ) → d < l.d → mark l.marks (slot_of l.tile d) ≡ true
