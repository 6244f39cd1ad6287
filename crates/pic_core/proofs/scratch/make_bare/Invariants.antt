use Rattle.std.proofs.Common.{◌≡◌, length}
use Rattle.pic_core.proofs.ScratchLaws.{AreBareBelow}
use Rattle.pic_core.proofs.scratch.make_bare.Given as goal

abbrev pub invariant-loop-number : goal.invariant-loop-number
invariant-loop-number l = record {
  long : length l.tiles ≡ l.count;
  bare : AreBareBelow l.number l.tiles;
}
