-- Room for the states of a run.
use Rattle.std.specs.Prelude.{◌≡◌, ⊤, ℕ, List, [], length}
use Rattle.pic_grid.specs.declared.snapshot.Snapshot.{Snapshot}
use Rattle.pic_devices.specs.Probes.{AreProbes}
use Rattle.pic_tile.specs.InOrder.{AreOrdered}
use Rattle.pic_devices.specs.declared.probes.Probes.{Probes}
use Rattle.pic_step.specs.SerialStep.{World, e_of, b_of}
use Rattle.pic_grid.specs.Parts.{one_part}
use Rattle.pic_states.specs.declared.output.Output.{Output}
use Rattle.pic_states.specs.declared.output.Output.TheVariants.{Dump, Lines, Probe}

-- a snapshot has the cells of a state, of their side, in one part, and as many particles
pub record HasShape (to : Snapshot) (w : World) : Type 0 where
  pub e_cells : to.e.cells ≡ w.cells
  pub e_side : to.e.side ≡ w.side
  pub e_parts : to.e.parts ≡ one_part
  pub b_cells : to.b.cells ≡ w.cells
  pub b_side : to.b.side ≡ w.side
  pub b_parts : to.b.parts ≡ one_part
  pub count : length to.particles.items ≡ length w.particles

-- what a run puts of its states can be put of this one: its probes are within the limits of a deck
abbrev pub CanPut : Output → World → Type 0
CanPut Dump w = ⊤
CanPut Lines w = ⊤
CanPut (Probe probes) w = AreProbes w.cells (length w.particles) probes

-- the identities of the particles that what a run puts needs at every step
abbrev pub followed_by : Output → List ℕ
followed_by Dump = []
followed_by Lines = []
followed_by (Probe probes) = probes.ids

-- probes can look at a state that follows these particles, into room whose particles are in the order of identities
pub record CanSee (probes : Probes) (to : Snapshot) (ids : List ℕ) : Type 0 where
  pub followed : ids ≡ probes.ids
  pub ordered : AreOrdered to.particles.items

-- where probes are what a run puts, they can
abbrev pub CanLook : Output → Snapshot → List ℕ → Type 0
CanLook Dump to followed = ⊤
CanLook Lines to followed = ⊤
CanLook (Probe probes) to followed = CanSee probes to followed

-- it holds the state
pub record HoldsState (to : Snapshot) (w : World) : Type 0 where
  pub e : to.e ≡ e_of w
  pub b : to.b ≡ b_of w
  pub particles : to.particles.items ≡ w.particles
