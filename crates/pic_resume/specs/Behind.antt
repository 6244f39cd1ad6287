-- What putting the kept frames behind a header did, held against what the source had.
use Rattle.std.specs.Prelude.{◌≡◌, ℕ, ◌+◌, List, length, take, None, Result, Ok, Err}
use Rattle.pic_io.specs.Told.{Told, Rose, Calm}
use Rattle.pic_io.specs.Source.{IsAtEnd}
use Rattle.pic_io.specs.Sinks.{Sinks, Wrote, outs, lines, CutAt}
use Rattle.pic_io.specs.declared.side.Side.{Side}
use Rattle.pic_grid.specs.declared.snapshot.Snapshot.{Snapshot}
use Rattle.pic_fields.specs.Parser.{input}
use Rattle.pic_fields.specs.Reads.{Left, Moves}
use Rattle.pic_record.specs.FrameFields.{FrameView}
use Rattle.pic_dump.specs.DumpRead.{RecordsRead, read_on}
use Rattle.pic_dump.specs.Standing.{Standing}
use Rattle.pic_dump.specs.Whole.{frame_parts, TakesWhole}
use Rattle.pic_dump.specs.Allowed.{records_length}
use Rattle.pic_verify.specs.Reached.{Reaches}
use Rattle.pic_verify.specs.Verified.{verdict_behind}
use Rattle.pic_resume.specs.declared.carry_stop.CarryStop.{CarryStop}
use Rattle.pic_resume.specs.declared.carry_stop.CarryStop.TheVariants.{ReadFault, BadDump, Refused, Broken, WriteFault, NoMemory}
use Rattle.pic_resume.specs.Carry.{Kept, kept_pieces, kept_by}
use Rattle.pic_resume.specs.Carries.{HoldsFrame, CanGoOn}

-- the records that are left where a reader stands behind a header
unfoldable pub records_behind : Standing → List ℕ → RecordsRead
records_behind r held = read_on (r.layout.steps + 2) r.layout None (input r.place held)

-- what is kept of them
abbrev pub kept_records : ℕ → Standing → RecordsRead → Kept
kept_records steps r records = kept_by steps r.layout records.0 (verdict_behind r.layout 0 records.0 records.1)

abbrev pub kept_behind : ℕ → Standing → List ℕ → Kept
kept_behind steps r held = kept_records steps r (records_behind r held)

-- all of it was put, and this is its answer
pub record FindsBehind (steps : ℕ) (r : Standing) (source source' : Told) (before now : Sinks) (answer : Result FrameView CarryStop) : Type 0 where
  pub calm : Calm source source'
  pub held : List ℕ
  pub was : Left source held
  pub put : Wrote before now (outs (kept_behind steps r held).pieces) (lines (kept_behind steps r held).pieces)
  pub answered : (kept_behind steps r held).answer ≡ answer

-- and a run can go on from the frame that the snapshot holds
pub record GivesFrame (steps : ℕ) (r : Standing) (source source' : Told) (before now : Sinks) (step : ℕ) (state : Snapshot) : Type 0 where
  pub last : FrameView
  pub finds : FindsBehind steps r source source' before now (Ok last)
  pub end : IsAtEnd source'
  pub holds : HoldsFrame r.layout last step state
  pub can : CanGoOn r.layout last

-- a read failed behind so many frames
pub record FailsBehind (steps : ℕ) (r : Standing) (source source' : Told) (before now : Sinks) : Type 0 where
  pub rose : Rose source source'
  pub held : List ℕ
  pub was : Left source held
  pub count : ℕ
  pub takes : TakesWhole (frame_parts r.layout r.place (length (records_behind r held).0)) r.place count source source'
  pub put : Wrote before now (outs (kept_pieces steps r.layout (take count (records_behind r held).0)))
      (lines (kept_pieces steps r.layout (take count (records_behind r held).0)))

-- a put failed
pub record CutsBehind (steps : ℕ) (r : Standing) (side : Side) (source source' : Told) (before now : Sinks) : Type 0 where
  pub calm : Calm source source'
  pub held : List ℕ
  pub was : Left source held
  pub cut : CutAt side before now (kept_behind steps r held).pieces

abbrev pub AnsweredBehind : ℕ → Standing → Told → Told → Sinks → Sinks → Snapshot → Result ℕ CarryStop → Type 0
AnsweredBehind steps r source source' before now state (Ok step) = GivesFrame steps r source source' before now step state
AnsweredBehind steps r source source' before now state (Err ReadFault) = FailsBehind steps r source source' before now
AnsweredBehind steps r source source' before now state (Err (BadDump place cause)) =
    FindsBehind steps r source source' before now (Err (BadDump place cause))
AnsweredBehind steps r source source' before now state (Err (Broken frame at)) = FindsBehind steps r source source' before now (Err (Broken frame at))
AnsweredBehind steps r source source' before now state (Err (WriteFault side)) = CutsBehind steps r side source source' before now
AnsweredBehind steps r source source' before now state (Err (Refused refusal)) = ⊥
AnsweredBehind steps r source source' before now state (Err NoMemory) = ⊥

-- what was put and answered, that no more was taken than the header allows, and a byte, and none behind the
-- first record that isn't good
pub record CarriesBehind (steps : ℕ) (r : Standing) (source source' : Told) (before now : Sinks) (state : Snapshot) (result : Result ℕ CarryStop) : Type
    0 where
  pub answer : AnsweredBehind steps r source source' before now state result
  pub moves : Moves r.place (r.place + (records_length r.layout + 1)) source source'
  pub reaches : Reaches r source source'
