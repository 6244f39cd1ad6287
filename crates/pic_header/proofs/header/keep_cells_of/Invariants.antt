use Rattle.std.proofs.Common.{◌≡◌, ℕ, ◌<◌, length, get_or}
use Rattle.pic_grid.specs.declared.loops.Loop.{Loop}
use Rattle.pic_header.proofs.header.keep_cells_of.Given as goal

-- the loops so far have cells with a number on each axis
abbrev pub invariant-loop-one : goal.invariant-loop-one
invariant-loop-one l = (k : ℕ) (d : Loop) → k < l.one-index → length (get_or l.loops k d).cell ≡ 3
