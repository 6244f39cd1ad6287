use Rattle.std.proofs.Common.{◌≡◌, ℕ, ◌<◌, length, get_or}
use Rattle.pic_grid.specs.declared.loops.Loop.{Loop}
use Rattle.pic_run_laws.proofs.kept.keep_loops.Given as goal

-- the cells of the loops so far have three numbers
abbrev pub invariant-loop-one : goal.invariant-loop-one
invariant-loop-one l = (k : ℕ) (d : Loop) → k < l.one-index → length (get_or l.loops k d).cell ≡ 3
