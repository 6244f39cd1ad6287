use Rattle.std.proofs.Common.{◌≡◌, ℕ, ◌*◌, ◌<◌, length, get_or}
use Rattle.pic_tile.specs.Tiling.{neighbour_of}
use Rattle.pic_core.proofs.around.neighbours.Given as goal

abbrev pub invariant-loop-row : goal.invariant-loop-row
invariant-loop-row l = record {
  long : length l.all ≡ 27;
  found : (d : ℕ) → d < l.row * 3 → get_or l.all d 0 ≡ neighbour_of l.map.tiles l.tile d;
}
