-- The law of the verdict on a dump, said of each record by itself: where it begins, after which step
-- it is due, and whether its E and its charge meet Gauss's law (Birdsall and Langdon, "Plasma Physics
-- via Computer Simulation").
use Rattle.std.specs.Prelude.{◌≡◌, ◌↔◌, ℕ, suc, ◌<◌, ◌⊎◌, List, [], drop, Some, Ok, Err}
use Rattle.pic_grid.specs.declared.stop.EndMark.{EndMark}
use Rattle.pic_grid.specs.Differences.{div_e}
use Rattle.pic_grid.specs.Lattice.{value_at}
use Rattle.pic_charge.specs.declared.breaks.Break.{Break}
use Rattle.pic_charge.specs.Charge.{rho_of}
use Rattle.pic_charge.specs.Gauss.{IsLeastBreak}
use Rattle.pic_fields.specs.Parser.{Input, input, Fault, fault, Parsed}
use Rattle.pic_header.specs.Header.{HeaderView}
use Rattle.pic_record.specs.Layout.{layout_of}
use Rattle.pic_record.specs.FrameFields.{FrameView, field_with}
use Rattle.pic_header.specs.HeaderFields.{header_at}
use Rattle.pic_record.specs.Records.{RecordView, AFrame, AnEnd, record_at}
use Rattle.pic_verify.specs.declared.verify_stop.VerifyStop.TheVariants.{ReadFault, BadDump, Broken, NoMemory}
use Rattle.pic_dump.specs.InTurn.{due_step, step_before}
use Rattle.pic_dump.specs.Whole.{record_place}
use Rattle.pic_verify.specs.Verified.{Verdict, ObeysGauss, break_of, verified}

-- the bytes from a place on
abbrev pub bytes_from : List ℕ → ℕ → Input
bytes_from bytes place = input place (drop place bytes)

-- what the format says of record k, read at its place
abbrev pub record_of : List ℕ → HeaderView → ℕ → Parsed RecordView
record_of bytes h k = record_at (layout_of h) (step_before (layout_of h) k) (bytes_from bytes (record_place h k))

-- record k is this frame, of the step that is due, and whole
pub record IsFrameAt (bytes : List ℕ) (h : HeaderView) (k : ℕ) (frame : FrameView) : Type 0 where
  pub reads : record_of bytes h k ≡ Ok (AFrame frame, bytes_from bytes (record_place h (suc k)))
  pub step : frame.step ≡ due_step (layout_of h) k

-- record k is a frame that meets Gauss's law at every node
pub record IsGood (bytes : List ℕ) (h : HeaderView) (k : ℕ) : Type 0 where
  pub frame : FrameView
  pub is : IsFrameAt bytes h k frame
  pub gauss : ObeysGauss (layout_of h) frame

-- the bytes begin with this header and n good frames
pub record Begins (bytes : List ℕ) (h : HeaderView) (n : ℕ) : Type 0 where
  pub header : header_at (input 0 bytes) ≡ Ok (h, bytes_from bytes (record_place h 0))
  pub good : (k : ℕ) → k < n → IsGood bytes h k

-- a header, n good frames, and an end record that fits them, behind which nothing is
pub record IsWhole (bytes : List ℕ) (n : ℕ) : Type 0 where
  pub header : HeaderView
  pub begins : Begins bytes header n
  pub mark : EndMark
  pub end : ℕ
  pub ends : record_of bytes header n ≡ Ok (AnEnd mark, input end [])

-- a header, some good frames, and a record with this fault
pub record FailsBehind (bytes : List ℕ) (f : Fault) : Type 0 where
  pub header : HeaderView
  pub number : ℕ
  pub begins : Begins bytes header number
  pub fails : record_of bytes header number ≡ Err f

-- the fault is the header's, or that of the first record that isn't good
abbrev pub IsFirstFault : List ℕ → Fault → Type 0
IsFirstFault bytes f = (header_at (input 0 bytes) ≡ Err f) ⊎ FailsBehind bytes f

-- a header, n good frames, and a whole frame that breaks Gauss's law, with its least node where it does
pub record IsFirstBreak (bytes : List ℕ) (n : ℕ) (b : Break) : Type 0 where
  pub header : HeaderView
  pub begins : Begins bytes header n
  pub frame : FrameView
  pub is : IsFrameAt bytes header n frame
  pub breaks : break_of (layout_of header) frame.e frame.particles ≡ Some b
  pub least : IsLeastBreak header.cells (div_e header.cells (value_at (field_with (layout_of header) frame.e)))
      (rho_of header.side header.filter header.cells (layout_of header).kinds frame.particles) b

-- what a verdict says of the bytes
abbrev pub Means : List ℕ → Verdict → Type 0
Means bytes (Ok frames) = IsWhole bytes frames
Means bytes (Err (BadDump place cause)) = IsFirstFault bytes (fault place cause)
Means bytes (Err (Broken frame b)) = IsFirstBreak bytes frame b
Means bytes (Err ReadFault) = ⊥
Means bytes (Err NoMemory) = ⊥

-- a verdict is that on the bytes exactly where it says what they are
abbrev pub VerdictLaw : Type 0
VerdictLaw = (bytes : List ℕ) (verdict : Verdict) → (verified bytes ≡ verdict) ↔ Means bytes verdict
