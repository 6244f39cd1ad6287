use Rattle.pic_step.proofs.SwapLaws.{AreSwapping}
use Rattle.pic_step.proofs.tile_flux.swap_each_flux.Given as goal

-- the tiles before i have swapped
abbrev pub invariant-loop-i : goal.invariant-loop-i
invariant-loop-i l = AreSwapping l.fn.tiles l.tiles l.fn.blocks l.blocks l.i
