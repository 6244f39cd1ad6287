-- A dump that is put can be read: the format takes its text, and gives back what the text was of.
use Rattle.std.specs.Prelude.{◌≡◌, ℕ, suc, ◌<◌, List, ◌++◌, length, slice_index_or, Some, Ok}
use Rattle.std.specs.List.{flat_map}
use Rattle.pic_grid.specs.declared.stop.EndMark.{EndMark}
use Rattle.pic_header.specs.Header.{HeaderView, IsHeader}
use Rattle.pic_header.specs.HeaderText.{header_bytes}
use Rattle.pic_record.specs.Due.{due_after}
use Rattle.pic_record.specs.FrameFields.{FrameView}
use Rattle.pic_record.specs.Layout.{LayoutView, layout_of}
use Rattle.pic_record.specs.Readable.{IsReadableFrame, IsReadableEnd}
use Rattle.pic_record.specs.Records.{AFrame}
use Rattle.pic_record.specs.RecordText.{end_bytes}
use Rattle.pic_record.specs.Spelling.{record_bytes}
use Rattle.pic_dump.specs.InTurn.{due_step, step_before}
use Rattle.pic_dump.specs.DumpRead.{read_dump}

-- the bytes of a dump: a header, frames, and an end record
abbrev pub dump_bytes : HeaderView → List FrameView → EndMark → List ℕ
dump_bytes h frames mark = header_bytes h ++ flat_map (λ f. record_bytes (layout_of h) (AFrame f)) frames ++ end_bytes mark

-- a frame within its limits that is due as record k
pub record IsDueFrame (l : LayoutView) (k : ℕ) (f : FrameView) : Type 0 where
  pub due : due_after l.steps l.every (step_before l k) ≡ Some f.step
  pub fits : IsReadableFrame l f

-- a header, such frames in turn, the last of which is frame `last`, and an end record that fits behind it
pub record IsReadableDump (h : HeaderView) (frames : List FrameView) (mark : EndMark) : Type 0 where
  pub header : IsHeader h
  pub last : ℕ
  pub count : length frames ≡ suc last
  pub in_turn : (k : ℕ) (d : FrameView) → k < length frames → IsDueFrame (layout_of h) k (slice_index_or frames k d)
  pub end : IsReadableEnd (layout_of h) (due_step (layout_of h) last) mark

-- every such dump
abbrev pub DumpsAreRead : Type 0
DumpsAreRead =
    (h : HeaderView) (frames : List FrameView) (mark : EndMark) → IsReadableDump h frames mark
    → read_dump (dump_bytes h frames mark) ≡ Ok (record { header = h; frames = frames; end = Ok mark })
