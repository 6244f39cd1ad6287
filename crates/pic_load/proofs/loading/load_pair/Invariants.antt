use Rattle.std.proofs.Common.{◌≡◌, ◌++◌, ◌+◌, ◌*◌, ◌<◌, ℕ, length, slice_index_or}
use Rattle.std.specs.List.{All}
use Rattle.pic_block.specs.Cells.{Grid}
use Rattle.pic_load.specs.Drawing.{IsSpread}
use Rattle.pic_load.specs.Generator.{after}
use Rattle.pic_load.specs.Loading.{no_particle, beside, first_of_species, IsPlaced}
use Rattle.pic_load.proofs.loading.load_pair.Given as goal

abbrev pub invariant-loop-i : goal.invariant-loop-i
invariant-loop-i l = record {
  filled : l.particles.items ≡ l.initial.particles.items ++ first_of_species (length l.initial.particles.items) l.species
      (λ i. beside (slice_index_or l.initial.particles.items (l.start + i) no_particle) l.spread.drift l.spread.width (after (36 * i) l.initial.rng)) l.i;
  left : l.rng ≡ after (36 * l.i) l.initial.rng;
  placed : (grid : Grid) (m : ℕ) → l.species < m → IsSpread grid.side l.spread.drift l.spread.width → All (IsPlaced grid m) l.initial.particles.items
      → All (IsPlaced grid m) l.particles.items;
}
