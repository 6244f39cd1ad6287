-- What reading the next record of a dump gave.
use Rattle.std.specs.Prelude.{◌≡◌, ℕ, ◌+◌, ◌≤◌, List, Option, Some, None, Result, Ok, Err, ⊤}
use Rattle.pic_io.specs.Told.{Told}
use Rattle.pic_num.specs.declared.motion.Particle.{Particle}
use Rattle.pic_grid.specs.Lattice.{Field}
use Rattle.pic_energy.specs.declared.amounts.Energies.{Energies}
use Rattle.pic_fields.specs.declared.read_stop.ReadStop.{ReadStop}
use Rattle.pic_fields.specs.Reads.{HasRead, HasReadAll, Stops}
use Rattle.pic_record.specs.Due.{due_after}
use Rattle.pic_record.specs.Limits.{done_end}
use Rattle.pic_record.specs.Layout.{LayoutView}
use Rattle.pic_dump.specs.declared.dump_reader.Next.{Next}
use Rattle.pic_dump.specs.declared.dump_reader.Next.TheVariants.{Frame, End}
use Rattle.pic_record.specs.FrameFields.{frame_of, frame_length, IsHeld}
use Rattle.pic_record.specs.Readable.{IsReadableFrame}
use Rattle.pic_record.specs.Records.{AFrame, AnEnd, record_at}
use Rattle.pic_dump.specs.Standing.{Standing, passed}

-- a frame was read, within its limits, of a step after the last one's and among the steps, and the
-- reader stands behind it
pub record HasFrame (r : Standing) (before now : Told) (e b : Field) (particles : List Particle) (behind : Standing) (step : ℕ)
    (energies : Energies) : Type 0 where
  pub read : HasRead (record_at r.layout r.last) r.place before (AFrame (frame_of step e.values b.values particles energies)) behind.place now
  pub layout : behind.layout ≡ r.layout
  pub place : behind.place ≡ r.place + (1 + frame_length r.layout)
  pub last : behind.last ≡ Some step
  pub due : due_after r.layout.steps r.layout.every r.last ≡ Some step
  pub later : passed r.last ≤ step
  pub most : step ≤ r.layout.steps
  pub held : IsHeld r.layout e b particles
  pub readable : IsReadableFrame r.layout (frame_of step e.values b.values particles energies)

-- how many bytes may be taken for the next record: those of a frame where one is due, and else those of
-- the end record of a run that is done and one behind it
abbrev pub most_of : LayoutView → Option ℕ → ℕ
most_of l None = done_end + 1
most_of l (Some step) = 1 + frame_length l

abbrev pub record_most : Standing → ℕ
record_most r = most_of r.layout (due_after r.layout.steps r.layout.every r.last)

abbrev pub NextOf : Standing → Told → Told → Field → Field → List Particle → Result Next ReadStop → Type 0
NextOf r before now e b particles (Ok (Frame behind step energies)) = HasFrame r before now e b particles behind step energies
NextOf r before now e b particles (Ok (End mark)) = HasReadAll (record_at r.layout r.last) r.place (r.place + record_most r) before (AnEnd mark) now
NextOf r before now e b particles (Err stop) = Stops (record_at r.layout r.last) r.place (r.place + record_most r) before now stop

-- the next record, the first fault, or that a read failed
pub record NextReads (r : Standing) (before now : Told) (e b : Field) (particles : List Particle) (result : Result Next ReadStop) : Type 0 where
  pub answer : NextOf r before now e b particles result

-- so, where the next record is the end
abbrev pub AtEnd : Next → Type 0 → Type 0
AtEnd (Frame behind step energies) IsSo = ⊤
AtEnd (End mark) IsSo = IsSo
