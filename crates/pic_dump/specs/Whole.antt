-- The parts of a dump, its header and its frames: where each begins, how far it is read, and how many of
-- them were taken whole before a read that failed.
use Rattle.std.specs.Prelude.{◌≡◌, ℕ, zero, suc, ◌+◌, ◌*◌, ◌<◌, ◌≤◌, List, length, Result, Ok, Err}
use Rattle.pic_io.specs.Told.{Told}
use Rattle.pic_io.specs.Source.{with_front}
use Rattle.pic_fields.specs.Parser.{Fault}
use Rattle.pic_header.specs.Header.{HeaderView}
use Rattle.pic_header.specs.HeaderFields.{header_length, header_most}
use Rattle.pic_record.specs.Due.{due_after}
use Rattle.pic_record.specs.FrameFields.{frame_length}
use Rattle.pic_record.specs.Layout.{LayoutView, layout_of}
use Rattle.pic_dump.specs.DumpRead.{DumpRead, read_dump}
use Rattle.pic_dump.specs.InTurn.{step_before}
use Rattle.pic_dump.specs.NextReads.{most_of}

-- how many bytes record k has at most: those of a frame where one is due, and else those of the end
-- record of a run that is done and one behind it
abbrev pub most_at : LayoutView → ℕ → ℕ
most_at l k = most_of l (due_after l.steps l.every (step_before l k))

-- where record k begins, where record 0 begins at a place: behind k frames, all of one length
abbrev pub place_behind : LayoutView → ℕ → ℕ → ℕ
place_behind l place k = place + k * (1 + frame_length l)

-- where record k of a dump begins: behind the header and k frames
abbrev pub record_place : HeaderView → ℕ → ℕ
record_place h k = place_behind (layout_of h) (header_length h) k

-- parts that stand one behind another: how many are whole, where each begins, and before which place
-- reading it ends. That of one that isn't whole, behind these, is said too
pub record Parts : Type 0 where
  pub count : ℕ
  pub begin : ℕ → ℕ
  pub end : ℕ → ℕ

-- so many frames, of which the first begins at a place
abbrev pub frame_parts : LayoutView → ℕ → ℕ → Parts
frame_parts l place count = record { count = count; begin = place_behind l place; end = λ k. place_behind l place k + most_at l k }

-- part 0 of a dump is its header, and part k + 1 its record k
abbrev pub part_begin : HeaderView → ℕ → ℕ
part_begin h zero = 0
part_begin h (suc k) = record_place h k

abbrev pub part_end : HeaderView → ℕ → ℕ
part_end h zero = header_length h
part_end h (suc k) = record_place h k + most_at (layout_of h) k

-- a header and so many frames
abbrev pub parts_of : HeaderView → ℕ → Parts
parts_of h count = record { count = suc count; begin = part_begin h; end = part_end h }

-- the header and the whole frames; none, where the header has a fault
abbrev pub dump_parts : Result DumpRead Fault → Parts
dump_parts (Ok d) = parts_of d.header (length d.frames)
dump_parts (Err f) = record { count = 0; begin = λ k. 0; end = λ k. header_most }

-- those of some bytes
abbrev pub parts_in : List ℕ → Parts
parts_in bytes = dump_parts (read_dump bytes)

-- the first `whole` parts end at or before a place, and the next one doesn't: the header, or a frame
-- that is due; or where no frame is due, the end record of a run that is done and a byte behind it
pub record AreWhole (parts : Parts) (place whole : ℕ) : Type 0 where
  pub few : whole ≤ parts.count
  pub ended : parts.begin whole ≤ place
  pub next : place < parts.end whole

-- what was taken from a place on has so many of the parts whole
pub record TakesWhole (parts : Parts) (start whole : ℕ) (before now : Told) : Type 0 where
  pub front : List ℕ
  pub moved : before.bytes ≡ with_front front now.bytes
  pub exact : AreWhole parts (start + length front) whole

-- law: of the parts in some bytes one number alone is whole before a place
abbrev pub WholeIsExact : Type 0
WholeIsExact =
    (bytes : List ℕ) (place m n : ℕ) → AreWhole (parts_in bytes) place m → AreWhole (parts_in bytes) place n → m ≡ n
