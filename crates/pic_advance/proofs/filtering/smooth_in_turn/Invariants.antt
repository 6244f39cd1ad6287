use Rattle.pic_filter.specs.Smoothing.{smoothed_each}
use Rattle.pic_grid.specs.Lattice.{value_at}
use Rattle.pic_advance.specs.Blocks.{IsMade}
use Rattle.pic_advance.proofs.EachLaws.{Stepping}
use Rattle.pic_advance.proofs.filtering.smooth_in_turn.Given as goal

abbrev pub invariant-loop-i : goal.invariant-loop-i
invariant-loop-i l =
    let from = l.smoothing.from.now in Stepping (IsMade (smoothed_each from.cells (value_at from))) l.fn.blocks l.blocks l.i
