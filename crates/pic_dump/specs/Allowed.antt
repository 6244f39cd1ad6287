-- How many bytes a header allows, and how many a call that verifies takes at most.
use Rattle.std.specs.Prelude.{◌≡◌, ℕ, ◌+◌, ◌-◌, ◌*◌, ◌/◌, ◌≤◌, ◌⊎◌, List, length, Some, Ok, Err}
use Rattle.pic_io.specs.Told.{Told}
use Rattle.pic_io.specs.Source.{with_front}
use Rattle.pic_fields.specs.Parser.{Input, input, Fault}
use Rattle.pic_fields.specs.Reads.{Moves}
use Rattle.pic_header.specs.Header.{HeaderView}
use Rattle.pic_header.specs.Limits.{most_letters}
use Rattle.pic_header.specs.HeaderFields.{header_length, header_at, header_most}
use Rattle.pic_record.specs.Limits.{done_end}
use Rattle.pic_record.specs.Layout.{LayoutView, layout_of}
use Rattle.pic_record.specs.FrameFields.{frame_length}
use Rattle.pic_header.specs.HeadReads.{TakesWithin}

-- how many frames are due: one after no step, one after each so many steps, and one after the last
abbrev pub frames_due : LayoutView → ℕ
frames_due l = (l.steps + (l.every - 1)) / l.every + 1

-- the bytes of all frames that are due, and of the end record of a run that is done: an end record that
-- is longer stands in the place of a frame
abbrev pub records_length : LayoutView → ℕ
records_length l = frames_due l * (1 + frame_length l) + done_end

-- the length that a header allows
abbrev pub bytes_allowed : HeaderView → ℕ
bytes_allowed h = header_length h + records_length (layout_of h)

-- some bytes begin with a header, and so many are at most one more than it allows
pub record IsAllowed (bytes : List ℕ) (count : ℕ) : Type 0 where
  pub header : HeaderView
  pub rest : Input
  pub reads : header_at (input 0 bytes) ≡ Ok (header, rest)
  pub most : count ≤ bytes_allowed header + 1

-- some bytes begin with no header, and so many are no more than the longest header has, and no more
-- than the longest field, a name, beyond the place of the first fault
pub record IsInHeader (bytes : List ℕ) (count : ℕ) : Type 0 where
  pub fault : Fault
  pub fails : header_at (input 0 bytes) ≡ Err fault
  pub most : count ≤ header_most
  pub near : count ≤ fault.place + most_letters

-- what is taken of a source where memory was wanting
pub record TakesHeader (before now : Told) : Type 0 where
  -- no more bytes than the longest header has,
  pub longest : Moves 0 header_most before now
  -- and none behind the header with which the source's bytes begin
  pub own : TakesWithin header_at 0 before now

-- What is taken of a source: where its bytes begin with a header, at most one byte past the length
-- that this header allows; where they begin with none, no more than was read to find that.
pub record TakesAllowed (before now : Told) : Type 0 where
  -- the bytes that were taken
  pub front : List ℕ
  pub taken : before.bytes ≡ with_front front now.bytes
  -- so many at most
  pub most : (bytes : List ℕ) → before.bytes ≡ Some bytes
      → IsInHeader bytes (length front) ⊎ IsAllowed bytes (length front)
