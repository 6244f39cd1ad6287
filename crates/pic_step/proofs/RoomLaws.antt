-- A push of all tiles by a core, in the room of a state.
use Rattle.std.proofs.Common.{◌≡◌, ℕ, ◌<◌, List, ◌∙◌, subst}
use Rattle.pic_block.specs.Block.{AllAtMost}
use Rattle.pic_block.specs.Cells.{count_of}
use Rattle.pic_grid.specs.Traces.{most_flux}
use Rattle.pic_tile.specs.CoreState.{CoreState, tile_count, all_particles}
use Rattle.pic_tile.specs.Directions.{here}
use Rattle.pic_tile.specs.Exchanged.{AreExchanged}
use Rattle.pic_tile.specs.Frame.{FrameValue, felt_in}
use Rattle.pic_tile.specs.Tile.{TileValue, flux_at, tile_in}
use Rattle.pic_core.specs.declared.event.Event.{Event}
use Rattle.pic_core.specs.Events.{Ran}
use Rattle.pic_core.specs.AtStart.{IsAtStart, IsScratch}
use Rattle.pic_core.proofs.RunLaws.{ran_frame, ran_opening}
use Rattle.pic_step.specs.declared.plasma.Plasma.{Plasma}
use Rattle.pic_step.specs.Exchange.{HasExchanged}

-- what a core leaves that began with the tiles of a state and has run
pub core_exchanges : (old new : Plasma) (s t : CoreState) (events : List Event) → IsAtStart old.frame old.tiles.items s → Ran s events t → new.frame ≡ t.frame
    → AreExchanged (felt_in t.frame) t.frame.map (all_particles t.opening) new.tiles.items
    → ((r : ℕ) → r < tile_count t → AllAtMost most_flux (flux_at (tile_in new.tiles.items r) here)) → IsScratch t.frame.map new.room
    → new.spare ≡ old.spare → new.smooth ≡ old.smooth → new.tracers ≡ old.tracers → new.count ≡ old.count → HasExchanged old new
core_exchanges old new s t events opened ran frame exchanged bound room spare smooth tracers count =
    let frame_is = ran_frame s events t ran ∙ opened.frame in
    let opening_is = ran_opening s events t ran ∙ opened.opening in
    record {
      frame = frame ∙ frame_is;
      tiles = subst (λ (ts : List TileValue). AreExchanged (felt_in old.frame) old.frame.map (all_particles ts) new.tiles.items) opening_is
          (subst (λ (f : FrameValue). AreExchanged (felt_in f) f.map (all_particles t.opening) new.tiles.items) frame_is exchanged);
      small = subst (λ (f : FrameValue). (r : ℕ) → r < count_of f.map.tiles → AllAtMost most_flux (flux_at (tile_in new.tiles.items r) here)) frame_is bound;
      room = subst (λ (f : FrameValue). IsScratch f.map new.room) frame_is room;
      spare = spare;
      smooth = smooth;
      tracers = tracers;
      count = count;
    }
