use Rattle.std.proofs.Common.{◌≡◌, ◌<◌, length, drop}
use Rattle.std.specs.List.{All}
use Rattle.toml.specs.View.{view, items_view}
use Rattle.pic_walk.specs.Path.{path_of}
use Rattle.pic_walk.specs.Walk.{list_by, each}
use Rattle.pic_devices.specs.Probes.{id}
use Rattle.pic_devices.proofs.probe_reader.read_each_id.Given as goal

abbrev pub invariant-loop-i : goal.invariant-loop-i
invariant-loop-i l = record {
  count : length l.items.items ≡ l.i-end;
  size : length l.ids.items ≡ l.i;
  walked : list_by (id l.particles) (path_of l.address) (view l.value)
      ≡ each (id l.particles) (path_of l.address) l.ids.items (items_view (drop l.i l.items.items));
  limits : All (λ i. i < l.particles) l.ids.items;
}
