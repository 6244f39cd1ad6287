-- How far a call that verifies a dump reads: no byte behind the most that the first record which isn't
-- good can have, a frame's bytes where one is due.
use Rattle.std.specs.Prelude.{◌≡◌, ℕ, ◌+◌, ◌*◌, ◌<◌, ◌≤◌, ◌⊎◌, List, length, drop, Some, Ok}
use Rattle.pic_io.specs.Told.{Told}
use Rattle.pic_io.specs.Source.{with_front}
use Rattle.pic_fields.specs.Parser.{input}
use Rattle.pic_fields.specs.Reads.{Moves}
use Rattle.pic_header.specs.Header.{HeaderView}
use Rattle.pic_record.specs.FrameFields.{FrameView, frame_length}
use Rattle.pic_record.specs.Layout.{LayoutView, layout_of}
use Rattle.pic_record.specs.Records.{AFrame, record_at}
use Rattle.pic_dump.specs.InTurn.{due_step, step_before}
use Rattle.pic_dump.specs.Standing.{Standing}
use Rattle.pic_dump.specs.Allowed.{IsInHeader}
use Rattle.pic_dump.specs.Whole.{most_at, place_behind, record_place}
use Rattle.pic_verify.specs.Meaning.{Begins}
use Rattle.pic_verify.specs.Verified.{ObeysGauss}

-- some bytes begin with a header and so many good frames, and a count of them ends with the next record
pub record ReachesRecord (bytes : List ℕ) (count : ℕ) : Type 0 where
  pub header : HeaderView
  pub number : ℕ
  pub begins : Begins bytes header number
  pub most : count ≤ record_place header number + most_at (layout_of header) number

-- What is taken of a source: where its bytes begin with a header, no byte behind the most that the first
-- record which isn't good can have; where they begin with none, no more than was read to find that.
pub record TakesToRecord (before now : Told) : Type 0 where
  -- the bytes that were taken
  pub front : List ℕ
  pub taken : before.bytes ≡ with_front front now.bytes
  -- so many at most
  pub most : (bytes : List ℕ) → before.bytes ≡ Some bytes
      → IsInHeader bytes (length front) ⊎ ReachesRecord bytes (length front)

-- at a place these bytes begin with a good frame, of the step that is due as record k
pub record IsGoodAt (l : LayoutView) (place : ℕ) (bytes : List ℕ) (k : ℕ) : Type 0 where
  pub frame : FrameView
  pub reads : record_at l (step_before l k) (input place bytes)
      ≡ Ok (AFrame frame, input (place + (1 + frame_length l)) (drop (1 + frame_length l) bytes))
  pub step : frame.step ≡ due_step l k
  pub gauss : ObeysGauss l frame

-- the same from where a reader stands behind a header
pub record Reaches (r : Standing) (before now : Told) : Type 0 where
  pub number : ℕ
  pub frames : (bytes : List ℕ) → before.bytes ≡ Some bytes → (k : ℕ) → k < number
      → IsGoodAt r.layout (place_behind r.layout r.place k) (drop (k * (1 + frame_length r.layout)) bytes) k
  pub moves : Moves r.place (place_behind r.layout r.place number + most_at r.layout number) before now
