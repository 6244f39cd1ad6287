use Rattle.std.proofs.Common.{◌≡◌, length, drop}
use Rattle.std.specs.List.{All}
use Rattle.toml.specs.View.{view, items_view}
use Rattle.pic_walk.specs.Path.{path_of}
use Rattle.pic_walk.specs.Walk.{list_by, each}
use Rattle.pic_devices.specs.Probes.{IsPlace, place}
use Rattle.pic_devices.proofs.probe_reader.read_each_place.Given as goal

abbrev pub invariant-loop-i : goal.invariant-loop-i
invariant-loop-i l = record {
  count : length l.items.items ≡ l.i-end;
  size : length l.places.items ≡ l.i;
  walked : list_by (place l.cells.n) (path_of l.address) (view l.value)
      ≡ each (place l.cells.n) (path_of l.address) l.places.items (items_view (drop l.i l.items.items));
  limits : All (IsPlace l.cells.n) l.places.items;
}
