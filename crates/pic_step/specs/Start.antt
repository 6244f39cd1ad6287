-- The state that a run begins in, or goes on from.
use Rattle.std.specs.Prelude.{ℕ}
use Rattle.pic_grid.specs.declared.snapshot.Snapshot.{Snapshot}
use Rattle.pic_tile.specs.declared.setup.Setup.{Setup}
use Rattle.pic_tile.specs.Tiling.{grid_of_tiling}
use Rattle.pic_step.specs.declared.start.Start.{Start}
use Rattle.pic_step.specs.SerialStep.{World, world_of}

-- the state that stands in what a run begins with
abbrev pub begun : Start → World
begun s =
    world_of s.step (grid_of_tiling s.setup.map) s.setup.filter s.setup.loops
    s.setup.scales s.setup.kinds s.e.values s.b.values s.particles.items

-- the state after so many steps that stands in a snapshot, under what stays in its run
abbrev pub world_in_frame : Setup → ℕ → Snapshot → World
world_in_frame s step f =
    world_of step (grid_of_tiling s.map) s.filter s.loops s.scales s.kinds f.e.values f.b.values
    f.particles.items
