use Rattle.std.proofs.Common.{pos}
use Rattle.pic_advance.specs.Blocks.{IsMade}
use Rattle.pic_advance.proofs.EachLaws.{Stepping}
use Rattle.pic_advance.proofs.filtering.clear_in_turn.Given as goal

abbrev pub invariant-loop-i : goal.invariant-loop-i
invariant-loop-i l = Stepping (IsMade (λ a p. pos 0)) l.fn.blocks l.blocks l.i
