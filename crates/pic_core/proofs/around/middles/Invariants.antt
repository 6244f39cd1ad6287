use Rattle.std.proofs.Common.{◌≡◌, ℕ, ◌+◌, ◌*◌, ◌<◌, length, get_or}
use Rattle.pic_tile.specs.Tiling.{neighbour_of}
use Rattle.pic_core.proofs.around.middles.Given as goal

abbrev pub invariant-loop-row : goal.invariant-loop-row
invariant-loop-row l = record {
  long : length l.all ≡ 9;
  found : (k : ℕ) → k < l.row → get_or l.all k 0 ≡ neighbour_of l.map.tiles l.tile (1 + k * 3);
}
