use Rattle.std.proofs.Common.{◌≡◌, ℕ, ◌<◌, length, drop, slice_index_or}
use Rattle.toml.specs.View.{view, items_view}
use Rattle.pic_walk.specs.Path.{path_of}
use Rattle.pic_walk.specs.Walk.{list_by, each}
use Rattle.pic_walk.specs.Rows.{IsRow, no_row, row}
use Rattle.pic_walk.proofs.row_reader.read_each_row.Given as goal

abbrev pub invariant-loop-i : goal.invariant-loop-i
invariant-loop-i l = record {
  count : length l.items.items ≡ l.i-end;
  size : length l.rows.items ≡ l.i;
  walked : list_by (row l.cells.n) (path_of l.address) (view l.value)
      ≡ each (row l.cells.n) (path_of l.address) l.rows.items (items_view (drop l.i l.items.items));
  limits : (k : ℕ) → k < length l.rows.items → IsRow l.cells.n (slice_index_or l.rows.items k no_row);
}
