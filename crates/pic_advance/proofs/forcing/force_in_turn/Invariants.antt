use Rattle.pic_grid.specs.Gather.{force_of}
use Rattle.pic_grid.specs.Lattice.{value_at}
use Rattle.pic_advance.specs.Blocks.{IsMade}
use Rattle.pic_advance.proofs.EachLaws.{Stepping}
use Rattle.pic_advance.proofs.forcing.force_in_turn.Given as goal

abbrev pub invariant-loop-i : goal.invariant-loop-i
invariant-loop-i l = Stepping (IsMade (force_of l.forcing.mult (value_at l.forcing.from.now))) l.fn.blocks l.blocks l.i
