-- The push of all particles of a state, and the exchange of what leaves their tiles.
use Rattle.std.specs.Prelude.{◌≡◌, ℕ, ◌<◌, Result, Ok, Err}
use Rattle.pic_num.specs.declared.no_memory.NoMemory.{NoMemory}
use Rattle.pic_block.specs.Block.{AllAtMost}
use Rattle.pic_block.specs.Cells.{count_of}
use Rattle.pic_grid.specs.Traces.{most_flux}
use Rattle.pic_tile.specs.CoreState.{all_particles}
use Rattle.pic_tile.specs.Directions.{here}
use Rattle.pic_tile.specs.Exchanged.{AreExchanged}
use Rattle.pic_tile.specs.Frame.{felt_in}
use Rattle.pic_tile.specs.Tile.{flux_at, tile_in}
use Rattle.pic_core.specs.AtStart.{IsScratch}
use Rattle.pic_step.specs.declared.plasma.Plasma.{Plasma}

-- before and after: each tile has received all that leads to it, and its flux is within the limits;
-- the room is ready for the next push, and nothing else is changed
pub record HasExchanged (old new : Plasma) : Type 0 where
  pub frame : new.frame ≡ old.frame
  pub tiles : AreExchanged (felt_in old.frame) old.frame.map (all_particles old.tiles.items)
      new.tiles.items
  pub small : (r : ℕ) → r < count_of old.frame.map.tiles
      → AllAtMost most_flux (flux_at (tile_in new.tiles.items r) here)
  pub room : IsScratch old.frame.map new.room
  pub spare : new.spare ≡ old.spare
  pub smooth : new.smooth ≡ old.smooth
  pub tracers : new.tracers ≡ old.tracers
  pub count : new.count ≡ old.count

-- what so many workers answer: want of memory more than one alone
abbrev pub Exchanges : Plasma → ℕ → Result Plasma NoMemory → Type 0
Exchanges old workers (Ok new) = HasExchanged old new
Exchanges old workers (Err refused) = 1 < workers
