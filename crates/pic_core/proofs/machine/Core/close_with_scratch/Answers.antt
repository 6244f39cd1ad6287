use Rattle.std.proofs.Common.{Bool, false, List, length, None, replicate, refl, sym, ap, ◌∙◌, subst, ◌≡◌, ◌<◌, ℕ}
use Rattle.std.specs.Vec.{with_items}
use Rattle.std.proofs.lemmas.List.{with_items_is, length-replicate}
use Rattle.pic_block.specs.Block.{AllAtMost}
use Rattle.pic_grid.specs.Traces.{most_flux}
use Rattle.pic_tile.specs.CoreState.{CoreState, AreAllShut, tile_count, all_particles}
use Rattle.pic_tile.specs.Directions.{here}
use Rattle.pic_tile.specs.Exchanged.{AreExchanged}
use Rattle.pic_tile.specs.Frame.{felt_in}
use Rattle.pic_tile.specs.Tile.{TileValue, flux_at, parcel_at, tile_in}
use Rattle.pic_core.specs.declared.scratch.Scratch.{Scratch}
use Rattle.pic_core.specs.Inside.{state_of}
use Rattle.pic_core.specs.AtStart.{AreBare, IsScratch}
use Rattle.pic_core.proofs.EndLaws.{all_exchanged}
use Rattle.pic_core.proofs.ScratchLaws.{no_parcels, scratch_again, flux_bound}
use Rattle.pic_core.proofs.machine.Core.close_with_scratch.Goals as goal

pub make_bare-requires-clause-none : goal.make_bare-requires-clause-none
make_bare-requires-clause-none c = λ r d below within.
    let s = state_of c.self.inside in
    let count : c.count-count.result ≡ tile_count s = c.count-count.ensures.value ∙ ap (λ (z : CoreState). tile_count z) (sym c.self.view_is) in
    subst (λ (ts : List TileValue). parcel_at (tile_in ts r) d ≡ None) (sym c.deref_mut.ensures.value)
    (no_parcels s c.self.invariant (subst (λ (z : CoreState). AreAllShut z) (sym c.self.view_is) c.requires) r d
    (subst (λ (n : ℕ). r < n) count below) within)

pub returns-clause-exchanged : goal.returns-clause-exchanged
returns-clause-exchanged c =
    let s = state_of c.self.inside in
    subst (λ (z : CoreState). AreExchanged (felt_in z.frame) z.frame.map (all_particles z.opening) s.received) c.self.view_is
    (all_exchanged s c.self.invariant (subst (λ (z : CoreState). AreAllShut z) (sym c.self.view_is) c.requires))

pub returns-clause-bound : goal.returns-clause-bound
returns-clause-bound c =
    let s = state_of c.self.inside in
    subst (λ (z : CoreState). (r : ℕ) → r < tile_count z → AllAtMost most_flux (flux_at (tile_in s.received r) here)) c.self.view_is
    (flux_bound s c.self.invariant (subst (λ (z : CoreState). AreAllShut z) (sym c.self.view_is) c.requires))

pub returns-clause-scratch : goal.returns-clause-scratch
returns-clause-scratch c =
    let k = c.self.inside in
    let s = state_of k in
    let h = c.self.invariant in
    let tiles = c.make_bare.new.tiles in
    let count : c.count-count.result ≡ tile_count s = c.count-count.ensures.value ∙ ap (λ (z : CoreState). tile_count z) (sym c.self.view_is) in
    let bare : (with_items k.tiles tiles).items ≡ tiles =
    with_items_is k.tiles tiles (c.make_bare.ensures.long ∙ count ∙ sym h.places.tiles ∙ ap length (sym c.deref_mut.ensures.value) ∙ c.deref_mut.ensures.len) in
    let scratch : Scratch = record {
      bare = with_items k.tiles tiles;
      mail = k.mail;
      claimed = with_items k.claimed c.unmark.new.marks;
      posted = with_items k.posted c.unmark-2.new.marks;
      merged = with_items k.merged c.unmark-3.new.marks;
      shut = with_items k.shut c.unmark-4.new.marks;
    } in
    subst (λ (z : CoreState). IsScratch z.frame.map scratch) c.self.view_is
    (scratch_again s h (subst (λ (z : CoreState). AreAllShut z) (sym c.self.view_is) c.requires) scratch
    (subst (AreBare (tile_count s)) (sym bare) (subst (λ (n : ℕ). AreBare n tiles) count c.make_bare.ensures)) refl
    (with_items_is k.claimed c.unmark.new.marks (ap length c.unmark.ensures ∙ length-replicate (length c.deref_mut-2.result.now) false
    ∙ c.deref_mut-2.ensures.len)
    ∙ c.unmark.ensures ∙ ap (λ (l : List Bool). replicate (length l) false) c.deref_mut-2.ensures.value)
    (with_items_is k.posted c.unmark-2.new.marks (ap length c.unmark-2.ensures ∙ length-replicate (length c.deref_mut-3.result.now) false
    ∙ c.deref_mut-3.ensures.len)
    ∙ c.unmark-2.ensures ∙ ap (λ (l : List Bool). replicate (length l) false) c.deref_mut-3.ensures.value)
    (with_items_is k.merged c.unmark-3.new.marks (ap length c.unmark-3.ensures ∙ length-replicate (length c.deref_mut-4.result.now) false
    ∙ c.deref_mut-4.ensures.len)
    ∙ c.unmark-3.ensures ∙ ap (λ (l : List Bool). replicate (length l) false) c.deref_mut-4.ensures.value)
    (with_items_is k.shut c.unmark-4.new.marks (ap length c.unmark-4.ensures ∙ length-replicate (length c.deref_mut-5.result.now) false
    ∙ c.deref_mut-5.ensures.len)
    ∙ c.unmark-4.ensures ∙ ap (λ (l : List Bool). replicate (length l) false) c.deref_mut-5.ensures.value))
