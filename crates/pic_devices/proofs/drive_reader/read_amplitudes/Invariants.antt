use Rattle.std.proofs.Common.{◌≡◌, length, drop}
use Rattle.std.specs.List.{All}
use Rattle.toml.specs.View.{view, items_view}
use Rattle.pic_num.specs.Limits.{most_drive}
use Rattle.pic_num.specs.Sizes.{IsAtMost}
use Rattle.pic_walk.specs.Path.{path_of}
use Rattle.pic_walk.specs.Walk.{list_by, each}
use Rattle.pic_devices.specs.Drive.{amplitude}
use Rattle.pic_devices.proofs.drive_reader.read_amplitudes.Given as goal

abbrev pub invariant-loop-i : goal.invariant-loop-i
invariant-loop-i l = record {
  count : length l.items.items ≡ l.i-end;
  size : length l.numbers.items ≡ l.i;
  walked : list_by amplitude (path_of l.address) (view l.value)
      ≡ each amplitude (path_of l.address) l.numbers.items (items_view (drop l.i l.items.items));
  sizes : All (λ v. IsAtMost v most_drive) l.numbers.items;
}
