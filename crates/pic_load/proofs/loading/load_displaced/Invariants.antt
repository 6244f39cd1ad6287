use Rattle.std.proofs.Common.{◌≡◌, ◌++◌, ◌+◌, ◌<◌, ℕ, length, slice_index_or}
use Rattle.std.specs.List.{All}
use Rattle.pic_num.specs.declared.axis.Axis.{Axis}
use Rattle.pic_num.specs.Sizes.{IsAtMost}
use Rattle.pic_num.specs.Space.{spot, along}
use Rattle.pic_deck.specs.Species.{fastest}
use Rattle.pic_load.specs.Loading.{no_particle, displaced, first_of_species, IsPlaced}
use Rattle.pic_load.proofs.loading.load_displaced.Given as goal

abbrev pub invariant-loop-i : goal.invariant-loop-i
invariant-loop-i l = record {
  filled : l.particles.items ≡ l.initial.particles.items ++ first_of_species (length l.initial.particles.items) l.species
      (λ i. displaced l.cells (slice_index_or l.initial.particles.items (l.start + i) no_particle) l.displacement.by l.displacement.v) l.i;
  placed : (m : ℕ) → l.species < m → ((a : Axis) → IsAtMost (along a (spot l.displacement.v)) (fastest l.cells.side))
      → All (IsPlaced l.cells m) l.initial.particles.items → All (IsPlaced l.cells m) l.particles.items;
}
