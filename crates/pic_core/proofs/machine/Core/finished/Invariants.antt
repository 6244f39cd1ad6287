use Rattle.std.proofs.Common.{◌≡◌, ℕ, ◌<◌, true}
use Rattle.pic_tile.specs.CoreState.{is_shut}
use Rattle.pic_core.proofs.machine.Core.finished.Given as goal

abbrev pub invariant-loop-tile : goal.invariant-loop-tile
invariant-loop-tile l = (r : ℕ) → r < l.tile → is_shut l.self r ≡ true
