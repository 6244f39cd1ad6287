use Rattle.std.proofs.Common.{◌≡◌, take}
use Rattle.pic_tile.specs.InOrder.{written}
use Rattle.pic_step.proofs.looking.write_each.Given as goal

-- those so far
abbrev pub invariant-loop-particle : goal.invariant-loop-particle
invariant-loop-particle l = l.to ≡ written (take l.particle-index l.particles) l.initial.to
