use Rattle.std.proofs.Common.{◌≡◌, length}
use Rattle.pic_step.proofs.tile_flux.spare_blocks.Given as goal

abbrev pub invariant-loop : goal.invariant-loop
invariant-loop l = length l.blocks.items ≡ l.counter
