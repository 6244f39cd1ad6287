use Rattle.pic_advance.proofs.HalvesLaws.{IsHalving}
use Rattle.pic_advance.proofs.half_steps.halves_in_turn.Given as goal

-- the blocks before i have taken both half steps
abbrev pub invariant-loop-i : goal.invariant-loop-i
invariant-loop-i l = IsHalving l.step.scales.now l.step.e.now l.fn.blocks l.fn.force l.blocks l.force l.first l.second l.i
