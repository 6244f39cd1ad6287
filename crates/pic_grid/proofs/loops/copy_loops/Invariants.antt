use Rattle.std.proofs.Common.{◌≡◌, take}
use Rattle.pic_grid.proofs.loops.copy_loops.Given as goal

-- the loops so far
abbrev pub invariant-loop-one : goal.invariant-loop-one
invariant-loop-one l = l.copies.items ≡ take l.one-index l.loops
