use Rattle.std.proofs.Common.{ℕ, ◌<◌, get_or}
use Rattle.pic_deck.specs.Species.{Point6}
use Rattle.pic_run_laws.specs.KeptDecks.{IsSixfold}
use Rattle.pic_run_laws.proofs.kept.keep_points.Given as goal

-- the points so far have six numbers
abbrev pub invariant-loop-point : goal.invariant-loop-point
invariant-loop-point l = (k : ℕ) (d : Point6) → k < l.point-index → IsSixfold (get_or l.points k d)
