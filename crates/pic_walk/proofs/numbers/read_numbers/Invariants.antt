use Rattle.std.proofs.Common.{◌≡◌, ℕ, pos, ◌<◌, slice_index_or, length, take, drop}
use Rattle.toml.specs.View.{view, items_view}
use Rattle.pic_walk.specs.Path.{path_of}
use Rattle.pic_walk.specs.Limits.{MeetsLimits, limits_at}
use Rattle.pic_walk.specs.Walk.{numbers, number_at, each}
use Rattle.pic_walk.proofs.numbers.read_numbers.Given as goal

abbrev pub invariant-loop-i : goal.invariant-loop-i
invariant-loop-i g l = record {
  count : length l.items.items ≡ l.i-end;
  size : length l.numbers ≡ l.i-end;
  walked : numbers l.limits (path_of l.address) (view l.value)
      ≡ each (number_at l.limits) (path_of l.address) (take l.i l.numbers) (items_view (drop l.i l.items.items));
  bounds : (k : ℕ) → k < l.i → MeetsLimits (limits_at l.limits k) (slice_index_or l.numbers k (pos 0));
}
