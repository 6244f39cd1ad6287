use Rattle.std.proofs.Common.{◌≡◌, ℕ, ◌<◌, slice_index, length, take, drop}
use Rattle.toml.specs.View.{view, items_view}
use Rattle.pic_walk.specs.Path.{path_of}
use Rattle.pic_walk.specs.Walk.{array_of, each}
use Rattle.pic_grid.specs.Tiles.{IsTiled}
use Rattle.pic_settings.specs.Keys.{next_tiles}
use Rattle.pic_settings.proofs.grid.read_each_tiles.Given as goal

abbrev pub invariant-loop-i : goal.invariant-loop-i
invariant-loop-i l = record {
  count : length l.items.items ≡ 3;
  size : length l.tiles ≡ 3;
  walked : array_of 3 (next_tiles l.cells) (path_of l.address) (view l.value)
      ≡ each (next_tiles l.cells) (path_of l.address) (take l.i l.tiles) (items_view (drop l.i l.items.items));
  tiled : (k : ℕ) → k < l.i → IsTiled (slice_index l.cells k) (slice_index l.tiles k);
}
