use Rattle.std.proofs.Common.{◌≡◌, [], length, drop}
use Rattle.std.specs.List.{All}
use Rattle.toml.specs.View.{items_view}
use Rattle.pic_grid.specs.Loops.{IsLoop}
use Rattle.pic_walk.specs.Path.{path_of}
use Rattle.pic_walk.specs.Walk.{each}
use Rattle.pic_devices.specs.Drive.{one_loop}
use Rattle.pic_devices.proofs.drive_reader.read_each_loop.Given as goal

abbrev pub invariant-loop-i : goal.invariant-loop-i
invariant-loop-i l = record {
  count : length l.items.items ≡ l.i-end;
  size : length l.loops.items ≡ l.i;
  walked : each (one_loop l.cells.n) (path_of l.address) [] (items_view l.items.items)
      ≡ each (one_loop l.cells.n) (path_of l.address) l.loops.items (items_view (drop l.i l.items.items));
  limits : All (IsLoop l.cells.n) l.loops.items;
}
