use Rattle.std.proofs.Common.{◌≡◌, ◌++◌, ◌*◌, ◌<◌, ℕ, length}
use Rattle.std.specs.List.{All}
use Rattle.pic_load.specs.Drawing.{IsSpread}
use Rattle.pic_load.specs.Generator.{after}
use Rattle.pic_load.specs.Loading.{drawn, first_of_species, IsPlaced}
use Rattle.pic_load.proofs.loading.load_random.Given as goal

abbrev pub invariant-loop : goal.invariant-loop
invariant-loop l = record {
  filled : l.particles.items ≡ l.initial.particles.items ++ first_of_species (length l.initial.particles.items) l.species
      (λ i. drawn l.cells l.spread.drift l.spread.width (after (39 * i) l.initial.rng)) l.counter;
  left : l.rng ≡ after (39 * l.counter) l.initial.rng;
  placed : (m : ℕ) → l.species < m → IsSpread l.cells.side l.spread.drift l.spread.width → All (IsPlaced l.cells m) l.initial.particles.items
      → All (IsPlaced l.cells m) l.particles.items;
}
