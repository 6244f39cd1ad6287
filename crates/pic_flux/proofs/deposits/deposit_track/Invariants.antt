use Rattle.std.proofs.Common.{take}
use Rattle.pic_block.specs.Block.{IsShaped}
use Rattle.pic_grid.specs.Flux.{path_flux}
use Rattle.pic_flux.specs.Adds.{Adds}
use Rattle.pic_flux.proofs.deposits.deposit_track.Given as goal

-- the flux of the segments so far has been added
abbrev pub invariant-loop-seg : goal.invariant-loop-seg
invariant-loop-seg l = record {
  shape : IsShaped l.initial.to l.to;
  values : Adds l.initial.to l.to (path_flux l.sub l.q (take l.seg-index l.segments));
}
