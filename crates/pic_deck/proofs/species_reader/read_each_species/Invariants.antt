use Rattle.std.proofs.Common.{◌≡◌, [], map, length, drop}
use Rattle.toml.specs.View.{items_view}
use Rattle.pic_num.specs.Limits.{allowance_of}
use Rattle.pic_grid.specs.Species.{AreHeads}
use Rattle.pic_walk.specs.Path.{path_of}
use Rattle.pic_walk.specs.Walk.{each}
use Rattle.pic_deck.specs.Species.{AreFilled, head_of}
use Rattle.pic_deck.specs.Keys.{one_species}
use Rattle.pic_deck.proofs.species_reader.read_each_species.Given as goal

abbrev pub invariant-loop-i : goal.invariant-loop-i
invariant-loop-i l = record {
  count : length l.items.items ≡ l.i-end;
  size : length l.all.items ≡ l.i;
  walked : each (one_species l.terms) (path_of l.address) [] (items_view l.items.items)
      ≡ each (one_species l.terms) (path_of l.address) l.all.items (items_view (drop l.i l.items.items));
  heads : AreHeads (allowance_of l.terms.version).particles (map head_of l.all.items);
  filled : AreFilled l.terms l.all.items;
}
