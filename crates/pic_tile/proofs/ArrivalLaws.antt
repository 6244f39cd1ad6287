-- What a tile has after all merges: the particles of the list that the push led to it.
use Rattle.std.proofs.Common.{◌≡◌, ℕ, ◌<◌, Bool, true, cond, All, List, [], map, sum_by, refl, ◌∙◌, ap}
use Rattle.pic_num.specs.declared.motion.Particle.{Particle}
use Rattle.pic_block.specs.Cells.{count_of}
use Rattle.pic_grid.specs.PushPhase.{Surroundings, moved_all}
use Rattle.pic_tile.specs.Same.{Same}
use Rattle.pic_tile.specs.StandFor.{owned}
use Rattle.pic_tile.proofs.SumLaws.{total_same, sum_by-flat_map}
use Rattle.pic_tile.specs.Directions.{directions}
use Rattle.pic_tile.specs.Layers.{sender_of}
use Rattle.pic_tile.specs.LayerSum.{AreSharedOut}
use Rattle.pic_tile.specs.Leaving.{after_its_push, going}
use Rattle.pic_tile.specs.Owners.{tile_of}
use Rattle.pic_tile.specs.Receiving.{coming}
use Rattle.pic_tile.specs.Tiling.{Tiling}
use Rattle.pic_tile.proofs.HeldLaws.{Leads, arrive}

-- each particle after its push
pub after_all : (w : Surroundings) (xs : List Particle) → map (after_its_push w) xs ≡ moved_all w xs
unfolding after_its_push moved_all
after_all w xs = refl

-- what comes by all directions
pub coming_all : (w : Surroundings) (m : Tiling) (start : ℕ → List Particle) (xs : List Particle) (done : ℕ → Bool) (r : ℕ) → r < count_of m.tiles
    → AreSharedOut m start xs → All (λ x. tile_of m x < count_of m.tiles) xs → All (Leads w m) xs → ((d : ℕ) → d < directions → done d ≡ true)
    → Same (coming w m start done r) (owned (tile_of m) r (moved_all w xs))
unfolding coming
coming_all w m start xs done r below shared own leads all = record {
  sums = λ v.
      let sent : ℕ → List Particle = λ d. going w m d (start (sender_of m d r)) in
      sum_by-flat_map v (λ d. cond (done d) (sent d) []) directions
      ∙ total_same directions (λ d. sum_by v (cond (done d) (sent d) [])) (λ d. sum_by v (sent d))
      (λ d within. ap (λ (b : Bool). sum_by v (cond b (sent d) [])) (all d within))
      ∙ arrive w m start xs r v below shared own leads
      ∙ ap (λ (ys : List Particle). sum_by v (owned (tile_of m) r ys)) (after_all w xs);
}
