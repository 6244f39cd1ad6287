use Rattle.std.proofs.Common.{◌≡◌, ℕ, ◌<◌, length, drop, slice_index_or}
use Rattle.toml.specs.View.{view, items_view}
use Rattle.pic_walk.specs.Path.{path_of}
use Rattle.pic_walk.specs.Walk.{each}
use Rattle.pic_walk.specs.Points.{IsPoint, no_point, point, point_list}
use Rattle.pic_walk.proofs.point_reader.read_points.Given as goal

abbrev pub invariant-loop-i : goal.invariant-loop-i
invariant-loop-i l = record {
  count : length l.items.items ≡ l.i-end;
  size : length l.points.items ≡ l.i;
  walked : point_list l.cells (path_of l.address) (view l.value)
      ≡ each (point l.cells) (path_of l.address) l.points.items (items_view (drop l.i l.items.items));
  limits : (k : ℕ) → k < length l.points.items → IsPoint l.cells (slice_index_or l.points.items k no_point);
}
