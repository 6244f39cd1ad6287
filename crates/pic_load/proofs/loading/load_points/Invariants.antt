use Rattle.std.proofs.Common.{◌≡◌, ◌++◌, ◌<◌, ℕ, length, slice_index_or}
use Rattle.std.specs.List.{All}
use Rattle.pic_block.specs.Cells.{Grid}
use Rattle.pic_deck.specs.Species.{ArePoints, no_point}
use Rattle.pic_load.specs.Loading.{first_of_species, IsPlaced}
use Rattle.pic_load.proofs.loading.load_points.Given as goal

abbrev pub invariant-loop-point : goal.invariant-loop-point
invariant-loop-point l = record {
  filled : l.particles.items ≡ l.initial.particles.items ++ first_of_species (length l.initial.particles.items) l.species
      (λ i. slice_index_or l.points i no_point) l.point-index;
  placed : (grid : Grid) (m : ℕ) → l.species < m → ArePoints grid l.points → All (IsPlaced grid m) l.initial.particles.items
      → All (IsPlaced grid m) l.particles.items;
}
