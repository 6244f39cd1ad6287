-- The records of a dump behind its header: frames, and then one end record.
use Rattle.std.specs.Prelude.{ℕ, ◌&&◌, ◌||◌, Bool, nat_eq, if◌then◌else◌, is_some, Option, unwrap_or}
use Rattle.pic_grid.specs.declared.stop.EndMark.{EndMark}
use Rattle.pic_fields.specs.Parser.{Parser, ◌>>=◌, checked, mapped, finished}
use Rattle.pic_fields.specs.Number.{byte_at}
use Rattle.pic_record.specs.RecordText.{frame_tag, end_tag}
use Rattle.pic_record.specs.Due.{due_after}
use Rattle.pic_record.specs.Fields.{wrong_tag}
use Rattle.pic_record.specs.Layout.{LayoutView}
use Rattle.pic_record.specs.FrameFields.{FrameView, frame_at}
use Rattle.pic_record.specs.EndFields.{end_at}

-- a frame, or the end record
pub data RecordView : Type 0 where
  AFrame : FrameView → RecordView
  AnEnd : EndMark → RecordView

-- F where a frame is due, and E where one went before
abbrev pub is_tag : Option ℕ → Option ℕ → ℕ → Bool
is_tag due last tag = (is_some due && nat_eq tag frame_tag) || (is_some last && nat_eq tag end_tag)

-- the end record is the last one
unfoldable pub last_record : EndMark → Parser RecordView
last_record end = finished (AnEnd end)

-- what stands behind a record's mark
unfoldable pub behind_tag : LayoutView → Option ℕ → Option ℕ → ℕ → Parser RecordView
behind_tag l last due tag = if nat_eq tag frame_tag then mapped AFrame (frame_at l (unwrap_or due 0)) else end_at l last due last_record

-- the record after the frame of a step, or after the header
unfoldable pub record_at : LayoutView → Option ℕ → Parser RecordView
record_at l last = checked wrong_tag (is_tag (due_after l.steps l.every last) last) byte_at >>= behind_tag l last (due_after l.steps l.every last)
