-- A small dump whose conditions can be looked over: an ion and an electron that stand on each other in a
-- box of 2 cells an axis, without fields, and a run that stopped in its first step.
use Rattle.std.specs.Prelude.{ℤ, pos, negsuc, ℕ, ◌+◌, ◌^◌, List, [], ◌∷◌, All, replicate, codes}
use Rattle.pic_num.specs.declared.axis.Axis.TheVariants.{X}
use Rattle.pic_num.specs.declared.motion.Particle.{Particle}
use Rattle.pic_num.specs.declared.motion.What.TheVariants.{Speed}
use Rattle.pic_num.specs.Multiplier.{Multiplier}
use Rattle.pic_grid.specs.declared.stop.EndMark.{EndMark}
use Rattle.pic_grid.specs.declared.stop.EndMark.TheVariants.{Stopped}
use Rattle.pic_grid.specs.declared.stop.Stop.TheVariants.{Push}
use Rattle.pic_grid.specs.Species.{HeadView}
use Rattle.pic_header.specs.Header.{HeaderView}
use Rattle.pic_record.specs.FrameFields.{FrameView}
use Rattle.pic_record.specs.Layout.{layout_of}
use Rattle.pic_dump.specs.Readable.{IsReadableDump}
use Rattle.pic_verify.specs.Verified.{ObeysGauss}

abbrev pub one : Multiplier
one = record { n = pos 1; k = 0 }

-- a species of one particle
abbrev pub single : List ℕ → ℤ → ℕ → HeadView
single name charge mass = record { name = name; kind = record { charge = charge; mass = mass; kick = one; turn = one }; count = 1 }

abbrev pub small_header : HeaderView
small_header = record {
  version = 1;
  cells = record { x = 2; y = 2; z = 2 };
  side = 4096;
  steps = 1;
  every = 1;
  filter = 0;
  scales = record { e_to_b = one; b_to_e = one; e_force = one; b_force = one };
  species = single (codes "ion") (pos 1) 1836 ∷ single (codes "electron") (negsuc 0) 1 ∷ [];
  loops = [];
}

-- the ion rests, and the electron moves along x
abbrev pub resting_ion : Particle
resting_ion = record { id = 0; species = 0; x = 1 ∷ 2 ∷ 3 ∷ []; v = pos 0 ∷ pos 0 ∷ pos 0 ∷ [] }

abbrev pub moving_electron : Particle
moving_electron = record { id = 1; species = 1; x = 1 ∷ 2 ∷ 3 ∷ []; v = pos 5 ∷ pos 0 ∷ pos 0 ∷ [] }

abbrev pub small_frame : FrameView
small_frame = record {
  step = 0;
  e = replicate 24 (pos 0);
  b = replicate 24 (pos 0);
  particles = resting_ion ∷ moving_electron ∷ [];
  energies = record { kinetic = 25; electric = 0; magnetic = 0 };
}

-- the electron was too fast
abbrev pub small_end : EndMark
small_end = Stopped 1 (Push 1 Speed X (pos (2 ^ 40 + 1)))

-- it meets the conditions
pub record SmallDumpIsGood : Type 0 where
  pub readable : IsReadableDump small_header (small_frame ∷ []) small_end
  pub gauss : All (ObeysGauss (layout_of small_header)) (small_frame ∷ [])
