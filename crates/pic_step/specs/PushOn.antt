-- What the push phase of a state leaves.
use Rattle.std.specs.Prelude.{◌≡◌, ◌<◌, List, All, Option}
use Rattle.pic_num.specs.declared.motion.Kind.{Kind}
use Rattle.pic_num.specs.declared.motion.Particle.{Particle}
use Rattle.pic_num.specs.declared.axis.Axis.{Axis}
use Rattle.pic_num.specs.declared.mult.Scales.{Scales}
use Rattle.pic_num.specs.Space.{Triple}
use Rattle.pic_block.specs.Cells.{IsWithin}
use Rattle.pic_grid.specs.declared.stop.Stop.{Stop}
use Rattle.pic_grid.specs.Current.{current}
use Rattle.pic_grid.specs.Lattice.{Field, value_at, field_of}
use Rattle.pic_grid.specs.Parts.{layered}
use Rattle.pic_grid.specs.Gather.{force_of}
use Rattle.pic_grid.specs.PushPhase.{Surroundings, moved_all, push_stop}
use Rattle.pic_tile.specs.CoreState.{all_particles, IsOpening}
use Rattle.pic_tile.specs.Frame.{FrameValue}
use Rattle.pic_tile.specs.Tile.{TileValue}
use Rattle.pic_tile.specs.Tiling.{Tiling, cells_of}
use Rattle.pic_step.specs.declared.plasma.Plasma.{Plasma}
use Rattle.pic_step.specs.TileFlux.{flux_in}
use Rattle.pic_step.specs.Kept.{IsCut}
use Rattle.pic_step.specs.Plasma.{IsPlasma, HasFlux}
use Rattle.pic_step.specs.Sound.{IsSafe}
use Rattle.pic_step.specs.Tracers.{IsOf}

-- what is around the particles, by the fields E and B
abbrev pub around_fields : Scales → List Kind → Field → Field → Surroundings
around_fields scales kinds e b = record {
  side = e.side;
  cells = e.cells;
  kinds = kinds;
  of_e = force_of scales.e_force (value_at e);
  of_b = force_of scales.b_force (value_at b);
}

-- the particles of a state can be pushed: E is safe and cut as a state's, and they are ready,
-- within the limits and in the order of identities
pub record CanPush (scales : Scales) (e : Field) (p : Plasma) : Type 0 where
  pub side : 0 < p.frame.map.side
  pub cut : IsCut p.frame.map e
  pub safe : IsSafe scales.e_force e
  pub plasma : IsPlasma (all_particles p.tiles.items) p
  pub opening : IsOpening p.frame p.tiles.items
  pub tracers : All (IsOf (all_particles p.tiles.items)) p.tracers.items

-- the force values of B in a frame are those of a lattice
pub record HasForces (scales : Scales) (b : Field) (f : FrameValue) : Type 0 where
  pub forces : f.force_b ≡ field_of f.map.side (cells_of f.map) (layered (cells_of f.map))
      (force_of scales.b_force (value_at b))

-- the particles are pushed, their stop is known, and the flux of their tiles is the current
pub record ArePushed (w : Surroundings) (m : Tiling) (old : List Particle) (tiles : List TileValue)
    (stop : Option Stop) : Type 0 where
  pub particles : all_particles tiles ≡ moved_all w old
  pub stop_is : stop ≡ push_stop w old
  pub current_is : (a : Axis) (p : Triple) → IsWithin p w.cells
      → flux_in m tiles a p ≡ current w old a p

-- before and after the push: the map and the kinds stay, and the tiles have received all
pub record HasPushed (w : Surroundings) (old new : Plasma) (stop : Option Stop) : Type 0 where
  pub map : new.frame.map ≡ old.frame.map
  pub kinds : new.frame.kinds ≡ old.frame.kinds
  pub smooth : new.smooth ≡ old.smooth
  pub flux : HasFlux new
  pub pushed : ArePushed w new.frame.map (all_particles old.tiles.items) new.tiles.items stop
