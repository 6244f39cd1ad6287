use Rattle.std.proofs.Common.{◌≡◌, [], length, map, take, drop}
use Rattle.std.specs.List.{All, range_with_len}
use Rattle.pic_num.specs.declared.motion.Particle.{Particle}
use Rattle.pic_deck.specs.Species.{particles_of}
use Rattle.pic_load.specs.Loading.{loaded_after, IsPlaced}
use Rattle.pic_load.proofs.loading.load.Given as goal

abbrev pub invariant-loop-number : goal.invariant-loop-number
invariant-loop-number l = record {
  rest : loaded_after l.terms.grid [] [] l.all ≡ loaded_after l.terms.grid (take l.number l.all) l.particles.items (drop l.number l.all);
  count : length l.particles.items ≡ particles_of (take l.number l.all);
  identities : map (λ (p : Particle). p.id) l.particles.items ≡ range_with_len 0 (length l.particles.items);
  placed : All (IsPlaced l.terms.grid (length l.all)) l.particles.items;
}
