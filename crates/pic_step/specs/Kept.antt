-- What the state of a run is seen as, and what its type keeps.
use Rattle.std.specs.Prelude.{◌≡◌, ℕ, List, All}
use Rattle.pic_num.specs.declared.mult.Scales.{Scales}
use Rattle.pic_grid.specs.declared.loops.Loop.{Loop}
use Rattle.pic_grid.specs.Lattice.{Field}
use Rattle.pic_grid.specs.Parts.{layered}
use Rattle.pic_tile.specs.CoreState.{all_particles}
use Rattle.pic_tile.specs.Tiling.{Tiling, cells_of, grid_of_tiling}
use Rattle.pic_step.specs.declared.plasma.Plasma.{Plasma}
use Rattle.pic_filter.specs.Smoothing.{filter_in}
use Rattle.pic_step.specs.Plasma.{IsPlasma}
use Rattle.pic_step.specs.SerialStep.{World, world_of}
use Rattle.pic_step.specs.Sound.{IsSound}
use Rattle.pic_step.specs.Tracers.{IsOf}

-- a lattice on the cells of a map, with a part for each layer of z
pub record IsCut (m : Tiling) (f : Field) : Type 0 where
  pub cells : f.cells ≡ cells_of m
  pub side : f.side ≡ m.side
  pub parts : f.parts ≡ layered (cells_of m)

-- the fields of a state are
pub record AreCut (m : Tiling) (e b : Field) : Type 0 where
  pub of_e : IsCut m e
  pub of_b : IsCut m b

-- the state of these parts, after so many steps: its particles are those of the tiles, in the order
-- of their identities
abbrev pub seen : ℕ → List Loop → Scales → Field → Field → Plasma → World
seen step loops scales e b p =
    world_of step (grid_of_tiling p.frame.map) (filter_in p.smooth) loops scales p.frame.kinds e.values
    b.values
    (all_particles p.tiles.items)

-- it is sound, its fields are cut as a state's, its particles are ready for their push, and those that are followed are of them
pub record IsKept (step : ℕ) (loops : List Loop) (scales : Scales) (e b : Field) (p : Plasma) : Type 0 where
  pub sound : IsSound (seen step loops scales e b p)
  pub cut : AreCut p.frame.map e b
  pub plasma : IsPlasma (all_particles p.tiles.items) p
  pub tracers : All (IsOf (all_particles p.tiles.items)) p.tracers.items
