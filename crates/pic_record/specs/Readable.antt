-- What is put can be read: the format takes the text of each frame and end record within its limits, and
-- gives back what the text was of.
use Rattle.std.specs.Prelude.{◌≡◌, ℕ, ℤ, ◌+◌, ◌*◌, ◌<◌, ◌≤◌, List, [], length, map, sum, All, unsigned_abs, FitsSigned}
use Rattle.std.specs.Prelude.{Option, Some, None, IsSomeAnd, Ok}
use Rattle.std.specs.Int.{w128}
use Rattle.std.specs.List.{range_with_len}
use Rattle.pic_num.specs.declared.motion.Particle.{Particle}
use Rattle.pic_num.specs.declared.motion.What.{What}
use Rattle.pic_num.specs.Multiplier.{Multiplier}
use Rattle.pic_num.specs.Space.{Triple, triple, spot}
use Rattle.pic_num.specs.Velocity.{IsKeptVelocity}
use Rattle.pic_block.specs.Cells.{IsWithin, count_of}
use Rattle.pic_grid.specs.declared.stop.Bound.{Bound}
use Rattle.pic_grid.specs.declared.stop.Stop.{Stop}
use Rattle.pic_grid.specs.declared.stop.Stop.TheVariants.{Field, Push}
use Rattle.pic_grid.specs.declared.stop.EndMark.{EndMark}
use Rattle.pic_grid.specs.declared.stop.EndMark.TheVariants.{Done, Stopped}
use Rattle.pic_grid.specs.Hat.{IsInBox}
use Rattle.pic_energy.specs.Energies.{energies_of}
use Rattle.pic_fields.specs.Parser.{Input, input}
use Rattle.pic_record.specs.Due.{due_after}
use Rattle.pic_record.specs.RecordText.{end_bytes}
use Rattle.pic_record.specs.EndFields.{bound_limit, what_limit}
use Rattle.pic_record.specs.FrameFields.{FrameView, IsModerate, field_with}
use Rattle.pic_record.specs.Layout.{LayoutView, IsLayout, species_of}
use Rattle.pic_record.specs.Records.{AFrame, AnEnd, record_at}
use Rattle.pic_record.specs.Spelling.{record_bytes}
use Rattle.pic_header.specs.Readable.{IsReadFrom}

-- the values of a field: as many as it has places, each moderate
pub record IsReadableField (n : Triple) (by : Multiplier) (values : List ℤ) : Type 0 where
  pub count : length values ≡ 3 * count_of n
  pub moderate : All (IsModerate by) values

-- a particle that lies in the box, with a velocity that a push keeps, three numbers each, and the species
-- of its identity
pub record IsReadableParticle (l : LayoutView) (particle : Particle) : Type 0 where
  pub axes : length particle.x ≡ 3
  pub place : IsInBox l.side l.cells (triple particle.x)
  pub speeds : length particle.v ≡ 3
  pub velocity : IsKeptVelocity l.side (spot particle.v)
  pub species : particle.species ≡ species_of l.counts particle.id

-- a frame of such fields and particles, whose identities are 0, 1, 2 .., and of their energies
pub record IsReadableFrame (l : LayoutView) (f : FrameView) : Type 0 where
  pub e : IsReadableField l.cells l.scales.e_force f.e
  pub b : IsReadableField l.cells l.scales.b_force f.b
  pub identities : map (λ particle. particle.id) f.particles ≡ range_with_len 0 (sum l.counts)
  pub particles : All (IsReadableParticle l) f.particles
  pub energies : f.energies ≡ energies_of l.scales l.kinds (field_with l f.e) (field_with l f.b) f.particles

-- every such frame, where it is due
abbrev pub FramesAreRead : Type 0
FramesAreRead =
    (l : LayoutView) (last : Option ℕ) (f : FrameView) → IsLayout l → due_after l.steps l.every last ≡ Some f.step → IsReadableFrame l f
    → IsReadFrom (record_at l last) (record_bytes l (AFrame f)) (AFrame f)

-- and every frame that is read, of any list of numbers
abbrev pub FramesReadAreReadable : Type 0
FramesReadAreReadable =
    (l : LayoutView) (last : Option ℕ) (f : FrameView) (i j : Input) → record_at l last i ≡ Ok (AFrame f, j) → IsReadableFrame l f

-- a value past a limit, of 128 bits
pub record IsPast (limit : ℕ) (value : ℤ) : Type 0 where
  pub past : limit < unsigned_abs value
  pub fits : FitsSigned w128 value

-- what stopped a field phase: a value past its bound, in a cell of the grid
pub record IsFieldStop (l : LayoutView) (bound : Bound) (cell : List ℕ) (value : ℤ) : Type 0 where
  pub axes : length cell ≡ 3
  pub place : IsWithin (triple cell) l.cells
  pub number : IsPast (bound_limit bound) value

-- what stopped a push: a number of a particle's, past its limit
pub record IsPushStop (l : LayoutView) (id : ℕ) (what : What) (value : ℤ) : Type 0 where
  pub identity : id < sum l.counts
  pub number : IsPast (what_limit l.side what) value

-- what stopped a run, within the limits of a layout
abbrev pub IsReadableStop : LayoutView → Stop → Type 0
IsReadableStop l (Field phase bound axis cell value) = IsFieldStop l bound cell value
IsReadableStop l (Push id what axis value) = IsPushStop l id what value

-- a run that is done: no frame is due any more
pub record IsDoneBehind (l : LayoutView) (last steps : ℕ) : Type 0 where
  pub all : steps ≡ l.steps
  pub none : due_after l.steps l.every (Some last) ≡ None

-- a run that stopped after the last frame, on the way to the next
pub record IsStoppedBehind (l : LayoutView) (last step : ℕ) (stop : Stop) : Type 0 where
  pub behind : last < step
  pub before : IsSomeAnd (due_after l.steps l.every (Some last)) (λ due. step ≤ due)
  pub fits : IsReadableStop l stop

-- an end record that fits behind the frame of a step
abbrev pub IsReadableEnd : LayoutView → ℕ → EndMark → Type 0
IsReadableEnd l last (Done steps) = IsDoneBehind l last steps
IsReadableEnd l last (Stopped step stop) = IsStoppedBehind l last step stop

-- every such end record, with nothing behind it
abbrev pub EndsAreRead : Type 0
EndsAreRead =
    (l : LayoutView) (last : ℕ) (mark : EndMark) (place : ℕ) → IsLayout l → IsReadableEnd l last mark
    → record_at l (Some last) (input place (end_bytes mark)) ≡ Ok (AnEnd mark, input (place + length (end_bytes mark)) [])
