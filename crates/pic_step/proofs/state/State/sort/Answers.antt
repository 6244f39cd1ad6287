use Rattle.std.proofs.Common.{◌≡◌, List, refl, sym, ◌∙◌, subst}
use Rattle.std.specs.Vec.{with_items}
use Rattle.std.proofs.lemmas.List.{with_items_is}
use Rattle.pic_filter.specs.Smoothing.{filter_in}
use Rattle.pic_tile.specs.CoreState.{all_particles}
use Rattle.pic_tile.specs.Parcels.{AreFreshTiles}
use Rattle.pic_tile.specs.Tile.{TileValue}
use Rattle.pic_tile.specs.Tiling.{Tiling, IsMap}
use Rattle.pic_step.specs.declared.plasma.Plasma.{Plasma}
use Rattle.pic_step.specs.Kept.{seen}
use Rattle.pic_step.specs.Plasma.{IsPlasma}
use Rattle.pic_step.specs.Tracers.{identities}
use Rattle.pic_step.proofs.KeptLaws.{kept, begun_is}
use Rattle.pic_step.proofs.state.State.sort.Goals as goal
use Rattle.pic_step.proofs.state.State.sort.Goals.{After-sort}

-- the particles in tiles as they are sorted
abbrev sorted : After-sort → Plasma
sorted c =
    let p = c.self.inside.plasma in
    record p { tiles = with_items p.tiles c.sort.new.tiles; shelves = c.sort.new.shelves }

-- they are ready for their push as before
ready : (c : After-sort) → IsPlasma (all_particles c.self.inside.plasma.tiles.items) (sorted c)
ready c =
    let p = c.self.inside.plasma in
    let keeps = c.self.invariant.plasma in
    let items : (with_items p.tiles c.sort.new.tiles).items ≡ c.sort.new.tiles =
    with_items_is p.tiles c.sort.new.tiles (c.sort.auto.tiles ∙ c.deref_mut.ensures.len) in
    record {
      tiles =
          subst (λ (ts : List TileValue). AreFreshTiles p.frame.map (all_particles p.tiles.items) ts) (sym items)
          (subst (λ (ts : List TileValue). AreFreshTiles p.frame.map (all_particles ts) c.sort.new.tiles) c.deref_mut.ensures.value
          (subst (λ (m : Tiling). AreFreshTiles m (all_particles c.deref_mut.result.now) c.sort.new.tiles) c.map.ensures.value c.sort.ensures.fresh));
      room = keeps.room;
      parts = keeps.parts;
      spare = keeps.spare;
      smooth = keeps.smooth;
      count = keeps.count;
    }

of_map : (c : After-sort) → IsMap c.self.inside.plasma.frame.map
of_map c = subst IsMap c.map.ensures.value c.tiles-tiles.ensures.limits

pub invariant_of-self : goal.invariant_of-self
invariant_of-self c =
    let after = (goal.at.invariant_of-self c).After-sort in
    let k = c.self.inside in
    let p = k.plasma in
    let keeps = c.self.invariant in
    kept k.step (filter_in p.smooth) k.loops p.frame.map k.scales p.frame.kinds k.e k.b (all_particles p.tiles.items) (sorted after) (of_map after)
    keeps.sound keeps.cut refl refl refl (ready after) keeps.tracers

pub returns-clause-state : goal.returns-clause-state
returns-clause-state c =
    let after = (goal.at.returns-clause-state c).After-sort in
    let k = c.self.inside in
    let p = k.plasma in
    let keeps = c.self.invariant in
    let same : seen k.step k.loops k.scales k.e k.b (sorted after) ≡ seen k.step k.loops k.scales k.e k.b p =
    begun_is k.step (filter_in p.smooth) k.loops p.frame.map k.scales p.frame.kinds k.e k.b (all_particles p.tiles.items) (sorted after) (of_map after)
    keeps.sound keeps.cut refl refl refl (ready after) keeps.tracers in
    (λ i. record { world = same i; map = p.frame.map; followed = identities p.tracers.items }) ∙ c.self.view_is
