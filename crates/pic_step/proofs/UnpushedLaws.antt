-- A push of no particles: their tiles have no flux, as before it, and nothing stops it.
use Rattle.std.proofs.Common.{◌≡◌, ℕ, ◌<◌, List, [], ◌∷◌, length, None, refl, sym, ap, ◌∙◌, subst, arith}
use Rattle.std.proofs.Math.IntN.{ℤ, pos}
use Rattle.pic_num.specs.First.{first_of}
use Rattle.pic_num.specs.Sizes.{IsAtMost}
use Rattle.pic_num.specs.declared.axis.Axis.{Axis}
use Rattle.pic_num.specs.declared.motion.Particle.{Particle}
use Rattle.pic_num.specs.Space.{Triple, Spot, unwrapped}
use Rattle.pic_block.specs.Block.{AllAtMost, InZone}
use Rattle.pic_block.specs.Cells.{IsWithin, count_of}
use Rattle.pic_grid.specs.Current.{current}
use Rattle.pic_grid.specs.PushPhase.{Surroundings, moved_all, push_stop}
use Rattle.pic_grid.specs.Sums.{sum_over}
use Rattle.pic_grid.specs.Traces.{most_flux}
use Rattle.pic_tile.specs.CoreState.{all_particles}
use Rattle.pic_tile.specs.Directions.{here}
use Rattle.pic_tile.specs.Layers.{lowest_cell}
use Rattle.pic_tile.specs.Parcels.{AreFreshTiles}
use Rattle.pic_tile.specs.Tile.{TileValue, flux_at, tile_in}
use Rattle.pic_tile.specs.Tiling.{Tiling, IsMap, IsInTile, cells_of, owner_of}
use Rattle.pic_tile.proofs.TilingLaws.{owner_below, owner_has}
use Rattle.pic_step.specs.declared.plasma.Plasma.{Plasma}
use Rattle.pic_step.specs.TileFlux.{flux_in}
use Rattle.pic_step.specs.Plasma.{IsPlasma}
use Rattle.pic_step.specs.PushOn.{HasPushed}

-- a list of no length has nothing in it
nobody : (xs : List Particle) → length xs ≡ 0 → xs ≡ []
nobody [] none = refl
nobody (x ∷ xs) none = absurd (omega (arith, none))

none_moved : (w : Surroundings) → moved_all w [] ≡ []
unfolding moved_all
none_moved w = refl

none_stops : (w : Surroundings) → push_stop w [] ≡ None
unfolding push_stop first_of
none_stops w = refl

no_current : (w : Surroundings) (a : Axis) (p : Triple) → current w [] a p ≡ pos 0
unfolding current sum_over
no_current w a p = refl

-- the flux of fresh tiles is 0 at every edge
module _ (m : Tiling) (xs : List Particle) (us : List TileValue) (tiles : AreFreshTiles m xs us) where
  pub no_flux_is : IsMap m → (a : Axis) (p : Triple) → IsWithin p (cells_of m) → flux_in m us a p ≡ pos 0
  no_flux_is map a p within =
      let r = owner_of m p in
      let below = owner_below m p map.thick within in
      let inside : IsInTile m r p = owner_has m p map within in
      let fresh = tiles.fresh r below in
      let low : (flux_at (tile_in us r) here).low ≡ lowest_cell m r = fresh.ready.low ∙ ap (lowest_cell m) (tiles.numbers r below) in
      let size = fresh.ready.size in
      fresh.empty.values a (unwrapped p)
      (subst (λ (n : Triple). InZone (flux_at (tile_in us r) here).low n (unwrapped p)) (sym size)
      (subst (λ (l : Spot). InZone l m.size (unwrapped p)) (sym low) inside))

  pub flux_small : (r : ℕ) → r < count_of m.tiles → AllAtMost most_flux (flux_at (tile_in us r) here)
  flux_small r below = record {
    at_most = λ a c in_zone.
        let zero : IsAtMost (pos 0) most_flux = record { size = omega arith } in
        subst (λ (v : ℤ). IsAtMost v most_flux) (sym ((tiles.fresh r below).empty.values a c in_zone)) zero;
  }

pub none_pushed : (w : Surroundings) (p : Plasma) → IsMap p.frame.map → w.cells ≡ cells_of p.frame.map → IsPlasma (all_particles p.tiles.items) p
    → p.count ≡ 0 → HasPushed w p p None
none_pushed w p map cells ready none =
    let m = p.frame.map in
    let us = p.tiles.items in
    let empty : all_particles us ≡ [] = nobody (all_particles us) (sym ready.count ∙ none) in
    record {
      map = refl;
      kinds = refl;
      smooth = refl;
      flux = record {
        received = record {
          numbered = record { count = ready.tiles.count; numbers = ready.tiles.numbers };
          ready = λ r below. (ready.tiles.fresh r below).ready;
          quiet = λ r d below few apart. (ready.tiles.fresh r below).quiet d few;
          small = λ r below. flux_small m (all_particles us) us ready.tiles r below;
        };
        stand = ready.tiles.stand;
        room = ready.room;
        parts = ready.parts;
        spare = ready.spare;
        smooth = ready.smooth;
        count = ready.count;
      };
      pushed = record {
        particles = empty ∙ sym (none_moved w) ∙ sym (ap (moved_all w) empty);
        stop_is = sym (none_stops w) ∙ sym (ap (push_stop w) empty);
        current_is = λ a q within.
            no_flux_is m (all_particles us) us ready.tiles map a q (subst (IsWithin q) cells within)
            ∙ sym (no_current w a q)
            ∙ sym (ap (λ (xs : List Particle). current w xs a q) empty);
      };
    }
