-- What the bytes of a dump are read as: its header, its frames in their order, and its end record or the
-- first fault.
use Rattle.std.specs.Prelude.{ℕ, zero, suc, ◌+◌, List, [], ◌∷◌, Option, Some, None, Result, Ok, Err}
use Rattle.pic_grid.specs.declared.stop.EndMark.{EndMark}
use Rattle.pic_fields.specs.Parser.{Input, input, Fault, fault, Parsed}
use Rattle.pic_header.specs.Header.{HeaderView}
use Rattle.pic_header.specs.HeaderFields.{header_at}
use Rattle.pic_record.specs.Fields.{wrong_tag}
use Rattle.pic_record.specs.FrameFields.{FrameView}
use Rattle.pic_record.specs.Layout.{LayoutView, layout_of}
use Rattle.pic_record.specs.Records.{RecordView, AFrame, AnEnd, record_at}

-- a header, the whole frames behind it, and the end record or the first fault
pub record DumpRead : Type 0 where
  pub header : HeaderView
  pub frames : List FrameView
  pub end : Result EndMark Fault

-- whole frames, and the end record or the first fault behind them
abbrev pub RecordsRead : Type 0
RecordsRead = List FrameView × Result EndMark Fault

-- a frame, and the records behind it
abbrev pub with_frame : FrameView → RecordsRead → RecordsRead
with_frame f rest = (f ∷ rest.0, rest.1)

-- a record, and where it is a frame what follows one of its step
abbrev pub of_record : (ℕ → RecordsRead) → RecordView → RecordsRead
of_record next (AFrame f) = with_frame f (next f.step)
of_record next (AnEnd mark) = ([], Ok mark)

abbrev pub of_parsed : (ℕ → Input → RecordsRead) → Parsed RecordView → RecordsRead
of_parsed next (Ok x) = of_record (λ step. next step x.1) x.0
of_parsed next (Err f) = ([], Err f)

-- the records behind the frame of a step, or behind the header; there are at most n, and none may
-- stand behind these
unfoldable pub read_on : ℕ → LayoutView → Option ℕ → Input → RecordsRead
read_on zero l last i = ([], Err (fault i.place wrong_tag))
read_on (suc n) l last i = of_parsed (λ step rest. read_on n l (Some step) rest) (record_at l last i)

abbrev pub dump_with : HeaderView → RecordsRead → DumpRead
dump_with h records = record { header = h; frames = records.0; end = records.1 }

-- the header, and then the records: a frame after no step, after each step at most, and the end record
abbrev pub of_header : Parsed HeaderView → Result DumpRead Fault
of_header (Ok x) = Ok (dump_with x.0 (read_on (x.0.steps + 2) (layout_of x.0) None x.1))
of_header (Err f) = Err f

-- a dump, or the fault of its header
unfoldable pub read_dump : List ℕ → Result DumpRead Fault
read_dump bytes = of_header (header_at (input 0 bytes))
