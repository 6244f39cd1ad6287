-- One step of the serial scheme on one grid, in leapfrog (Birdsall and Langdon, "Plasma Physics via
-- Computer Simulation"): half a step of B, the push of every particle, another half step of B, a
-- step of E. Each phase is total: a field phase gives every place its new value, and a particle that
-- halts stands still. What stops the step is said beside it.
use Rattle.std.specs.Prelude.{ℕ, suc, ℤ, List, Option, Result}
use Rattle.std.specs.Option.{option_or}
use Rattle.pic_num.specs.declared.motion.Kind.{Kind}
use Rattle.pic_num.specs.declared.motion.Particle.{Particle}
use Rattle.pic_num.specs.declared.mult.Scales.{Scales}
use Rattle.pic_num.specs.declared.axis.Axis.{Axis}
use Rattle.pic_num.specs.Push.{unless}
use Rattle.pic_num.specs.Space.{Triple}
use Rattle.pic_block.specs.Cells.{Grid}
use Rattle.pic_grid.specs.declared.loops.Loop.{Loop}
use Rattle.pic_grid.specs.declared.stop.Phase.{Phase}
use Rattle.pic_grid.specs.declared.stop.Phase.TheVariants.{Half1, Half2, Electric}
use Rattle.pic_grid.specs.declared.stop.Stop.{Stop}
use Rattle.pic_grid.specs.Current.{current}
use Rattle.pic_grid.specs.Lattice.{Field, value_at, values_of}
use Rattle.pic_grid.specs.Gather.{force_of}
use Rattle.pic_grid.specs.Parts.{one_part, origin}
use Rattle.pic_grid.specs.PushPhase.{Surroundings, moved_all, push_stop}
use Rattle.pic_filter.specs.Smoothing.{filtered}
use Rattle.pic_drive.specs.Drive.{driven}
use Rattle.pic_field.specs.FieldPhases.{half_of, full_of, least_fault}

-- a state of the scheme: after how many steps it is; the side of a cell, the numbers of cells, the
-- filter of the current, the loops that drive the run, the multipliers and the species, which stay;
-- the values of E and of B in the order of places, and the particles in the order of their identities
pub record World : Type 0 where
  pub step : ℕ
  pub side : ℕ
  pub cells : Triple
  pub filter : ℕ
  pub loops : List Loop
  pub scales : Scales
  pub kinds : List Kind
  pub e : List ℤ
  pub b : List ℤ
  pub particles : List Particle

-- the state of these parts
abbrev pub world_of : ℕ → Grid → ℕ → List Loop → Scales → List Kind → List ℤ → List ℤ → List Particle → World
world_of step grid filter loops scales kinds e b particles = record {
  step = step;
  side = grid.side;
  cells = grid.n;
  filter = filter;
  loops = loops;
  scales = scales;
  kinds = kinds;
  e = e;
  b = b;
  particles = particles;
}

-- E and B of a state, as lattices of one part
abbrev pub e_of : World → Field
e_of w = record { cells = w.cells; side = w.side; parts = one_part; values = w.e }

abbrev pub b_of : World → Field
b_of w = record { cells = w.cells; side = w.side; parts = one_part; values = w.b }

-- what surrounds the particles: the force values of E and B
abbrev pub around : World → Surroundings
around w = record {
  side = w.side;
  cells = w.cells;
  kinds = w.kinds;
  of_e = force_of w.scales.e_force (value_at (e_of w));
  of_b = force_of w.scales.b_force (value_at (b_of w));
}

-- B after half a step, at a place
abbrev pub half_at : World → Axis → Triple → ℤ
half_at w a p = half_of w.scales (e_of w) a p (value_at (b_of w) a p)

-- what the loops add to the scaled B of the faces in the step from a state
abbrev pub drive_of : World → Axis → Triple → ℤ
drive_of w = driven w.loops w.step

-- E after a step, at a place, with the current j
abbrev pub full_at : (Axis → Triple → ℤ) → World → Axis → Triple → ℤ
full_at j w a p = full_of w.scales (b_of w) (drive_of w) a p (value_at (e_of w) a p) (j a p)

-- half a step of B
abbrev pub half_on : World → World
half_on w = record w { b = values_of w.cells (half_at w) }

-- the push of all particles
abbrev pub push_on : World → World
push_on w = record w { particles = moved_all (around w) w.particles }

-- the current of that push, filtered where there is a filter
abbrev pub current_of : World → Axis → Triple → ℤ
current_of w a = filtered w.filter w.cells (current (around w) w.particles a)

-- a step of E, with the current j
abbrev pub full_on : (Axis → Triple → ℤ) → World → World
full_on j w = record w { e = values_of w.cells (full_at j w) }

-- the state in which E takes its step: it still has the number of the step before
abbrev pub before_electric : World → World
before_electric w = half_on (push_on (half_on w))

-- the state after a step
unfoldable pub next_world : World → World
next_world w = record (full_on (current_of (half_on w)) (before_electric w)) { step = suc w.step }

-- what stops half a step of B
abbrev pub half_stop : Phase → World → Option Stop
half_stop phase w = least_fault phase w.scales.b_force origin w.cells (half_at w)

-- what stops a step of E
abbrev pub full_stop : (Axis → Triple → ℤ) → World → Option Stop
full_stop j w = least_fault Electric w.scales.e_force origin w.cells (full_at j w)

-- what stops a step: the stop of the first phase that has one
unfoldable pub stop_of_step : World → Option Stop
stop_of_step w =
    option_or (half_stop Half1 w)
    (option_or (push_stop (around (half_on w)) w.particles)
    (option_or (half_stop Half2 (push_on (half_on w)))
    (full_stop (current_of (half_on w)) (before_electric w))))

-- the state after a step, or what stops it
unfoldable pub stepped : World → Result World Stop
stepped w = unless (stop_of_step w) (next_world w)
