use Rattle.std.proofs.Common.{ℕ, ◌<◌}
use Rattle.pic_grid.specs.Parts.{IsWeakLayer}
use Rattle.pic_gather.proofs.weak.is_weak.Given as goal

abbrev pub invariant-loop-z : goal.invariant-loop-z
invariant-loop-z l = (z : ℕ) → z < l.z → IsWeakLayer l.force z
