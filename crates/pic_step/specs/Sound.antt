-- What the state of a run keeps.
use Rattle.std.specs.Prelude.{◌≤◌, length}
use Rattle.std.specs.List.{All}
use Rattle.pic_num.specs.Limits.{least_side, most_side, most_filter, most_loops, most_steps, most_particles}
use Rattle.pic_num.specs.declared.axis.Axis.{Axis}
use Rattle.pic_num.specs.Multiplier.{Multiplier}
use Rattle.pic_num.specs.Space.{Triple, spot}
use Rattle.pic_num.specs.Velocity.{IsKeptVelocity}
use Rattle.pic_block.specs.Cells.{IsCells, IsWithin}
use Rattle.pic_grid.specs.Lattice.{Field, value_at}
use Rattle.pic_grid.specs.Loops.{AreLoops}
use Rattle.pic_grid.specs.PushPhase.{CanShare}
use Rattle.pic_charge.specs.Gauss.{MeetsGauss}
use Rattle.pic_field.specs.FieldPhases.{IsBounded}
use Rattle.pic_tile.specs.Frame.{AreKinds}
use Rattle.pic_tile.specs.InOrder.{AreOrdered}
use Rattle.pic_step.specs.SerialStep.{World, e_of, b_of}

-- no value of a field passes its bounds
pub record IsSafe (by : Multiplier) (f : Field) : Type 0 where
  pub bounded : (a : Axis) (p : Triple) → IsWithin p f.cells → IsBounded by (value_at f a p)

-- the limits, of the step, the side and the loops too, the census, and Gauss's law at every node: the particles
-- are in the order of the identities 0, 1, .., each one's species is one of the kinds, its position
-- lies in the box, and its velocity is one that a push keeps
pub record IsSound (w : World) : Type 0 where
  pub reached : w.step ≤ most_steps
  pub side_least : least_side ≤ w.side
  pub side_most : w.side ≤ most_side
  pub cells : IsCells w.cells
  pub filter : w.filter ≤ most_filter
  pub loops : AreLoops w.cells most_loops w.loops
  pub e : IsSafe w.scales.e_force (e_of w)
  pub b : IsSafe w.scales.b_force (b_of w)
  pub kinds : AreKinds w.kinds
  pub few : length w.particles ≤ most_particles
  pub ordered : AreOrdered w.particles
  pub places : All (CanShare w.side w.cells w.kinds) w.particles
  pub velocities : All (λ particle. IsKeptVelocity w.side (spot particle.v)) w.particles
  pub gauss : MeetsGauss w.side w.filter w.cells w.kinds w.particles (e_of w)
