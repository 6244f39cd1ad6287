-- The version 2 spelling of a dump: the same header, in version 2, and the same records. And what a call
-- that puts it did, held against what the source had.
use Rattle.std.specs.Prelude.{◌≡◌, ◌≢◌, ℕ, ◌+◌, ◌≤◌, List, [], ◌∷◌, ◌++◌, length, map, take, None, Some, Result, Ok, Err, ⊤}
use Rattle.pic_io.specs.Told.{Told, Rose, Calm, Quiet}
use Rattle.pic_io.specs.Source.{IsAtEnd}
use Rattle.pic_io.specs.Sink.{Appended}
use Rattle.pic_io.specs.Sinks.{sinks, Piece, outs, CutAt}
use Rattle.pic_io.specs.declared.side.Side.TheVariants.{Out}
use Rattle.pic_grid.specs.declared.stop.EndMark.{EndMark}
use Rattle.pic_fields.specs.Parser.{Fault, input}
use Rattle.pic_fields.specs.Reads.{Left, Moves}
use Rattle.pic_header.specs.Header.{HeaderView, upgraded}
use Rattle.pic_header.specs.HeaderText.{header_bytes}
use Rattle.pic_record.specs.FrameFields.{FrameView}
use Rattle.pic_record.specs.Layout.{LayoutView, layout_of}
use Rattle.pic_record.specs.Records.{AFrame}
use Rattle.pic_record.specs.RecordText.{end_bytes}
use Rattle.pic_record.specs.Spelling.{record_bytes}
use Rattle.pic_dump.specs.declared.upgrade_stop.UpgradeStop.{UpgradeStop}
use Rattle.pic_dump.specs.declared.upgrade_stop.UpgradeStop.TheVariants.{ReadFault, BadDump, WriteFault, NoMemory}
use Rattle.pic_dump.specs.Allowed.{records_length}
use Rattle.pic_dump.specs.DumpRead.{DumpRead, RecordsRead, read_on, read_dump}
use Rattle.pic_dump.specs.Standing.{Standing}
use Rattle.pic_dump.specs.Whole.{Parts, frame_parts, dump_parts, TakesWhole}

-- a text for out alone
abbrev pub piece_of : List ℕ → Piece
piece_of text = record { out = text; line = [] }

-- the header, the frames, and the end record where it is there
abbrev pub header_piece : HeaderView → Piece
header_piece h = piece_of (header_bytes (upgraded h))

abbrev pub frame_pieces : LayoutView → List FrameView → List Piece
frame_pieces l frames = map (λ f. piece_of (record_bytes l (AFrame f))) frames

abbrev pub end_pieces : Result EndMark Fault → List Piece
end_pieces (Ok mark) = piece_of (end_bytes mark) ∷ []
end_pieces (Err f) = []

-- the number of frames, or the first fault
abbrev pub Answer : Type 0
Answer = Result ℕ UpgradeStop

abbrev pub answer_behind : ℕ → Result EndMark Fault → Answer
answer_behind n (Ok mark) = Ok n
answer_behind n (Err f) = Err (BadDump f.place f.cause)

-- what is put of some bytes, piece by piece, the parts of them that are put whole, and the answer
pub record Upgrade : Type 0 where
  pub pieces : List Piece
  pub parts : Parts
  pub answer : Answer

-- of records, where reading them begins at a place
abbrev pub upgrade_records : LayoutView → ℕ → RecordsRead → Upgrade
upgrade_records l place r = record {
  pieces = frame_pieces l r.0 ++ end_pieces r.1;
  parts = frame_parts l place (length r.0);
  answer = answer_behind (length r.0) r.1;
}

-- of a dump, or of bytes whose header has a fault: all that was whole before the fault
abbrev pub upgrade_dump : Result DumpRead Fault → Upgrade
upgrade_dump (Ok d) = record {
  pieces = header_piece d.header ∷ frame_pieces (layout_of d.header) d.frames ++ end_pieces d.end;
  parts = dump_parts (Ok d);
  answer = answer_behind (length d.frames) d.end;
}
upgrade_dump (Err f) = record { pieces = []; parts = dump_parts (Err f); answer = Err (BadDump f.place f.cause) }

-- of some bytes
unfoldable pub upgrade_of : List ℕ → Upgrade
upgrade_of bytes = upgrade_dump (read_dump bytes)

-- of the records that are left where a reader stands behind the header
unfoldable pub upgrade_behind : Standing → List ℕ → Upgrade
upgrade_behind r held = upgrade_records r.layout r.place (read_on (r.layout.steps + 2) r.layout None (input r.place held))

-- neither count rose, all pieces of what was left were put, and this is its answer; no more was taken than
-- the part has that comes last, the end record or the one with the fault
pub record Puts (of : List ℕ → Upgrade) (start : ℕ) (source source' out out' : Told) (answer : Answer) : Type 0 where
  pub calm : Calm source source'
  pub calm_out : Calm out out'
  pub held : List ℕ
  pub was : Left source held
  pub put : Appended out out' (outs (of held).pieces)
  pub answered : (of held).answer ≡ answer
  pub moves : Moves start ((of held).parts.end (of held).parts.count) source source'

-- a read failed: of the parts those were put, whole, that were taken whole before
pub record FailsToRead (of : List ℕ → Upgrade) (start : ℕ) (source source' out out' : Told) : Type 0 where
  pub rose : Rose source source'
  pub calm_out : Calm out out'
  pub held : List ℕ
  pub was : Left source held
  pub whole : ℕ
  pub put : Appended out out' (outs (take whole (of held).pieces))
  pub takes : TakesWhole (of held).parts start whole source source'

-- a put failed: the pieces are cut where it did, whatever another sink holds; no more was taken than the
-- part has that was read last
pub record FailsToPut (of : List ℕ → Upgrade) (start : ℕ) (source source' out out' : Told) : Type 0 where
  pub calm : Calm source source'
  pub held : List ℕ
  pub was : Left source held
  pub cut : (report : Told) → CutAt Out (sinks out report) (sinks out' report) (of held).pieces
  pub last : ℕ
  pub few : last ≤ (of held).parts.count
  pub moves : Moves start ((of held).parts.end last) source source'

-- memory was wanted: neither count rose, and nothing was put
pub record PutsNothing (source source' out out' : Told) : Type 0 where
  pub calm : Calm source source'
  pub calm_out : Calm out out'
  pub put : Appended out out' []

abbrev pub Answered : (List ℕ → Upgrade) → ℕ → Told → Told → Told → Told → Answer → Type 0
Answered of start source source' out out' (Ok frames) = Puts of start source source' out out' (Ok frames) × IsAtEnd source'
Answered of start source source' out out' (Err ReadFault) = FailsToRead of start source source' out out'
Answered of start source source' out out' (Err (BadDump place cause)) = Puts of start source source' out out' (Err (BadDump place cause))
Answered of start source source' out out' (Err WriteFault) = FailsToPut of start source source' out out'
Answered of start source source' out out' (Err NoMemory) = PutsNothing source source' out out'

-- the whole spelling was put, and the source was read to its end; or all that was whole before the first
-- fault; or a read or a put failed, or want of memory
pub record Upgrades (source source' out out' : Told) (result : Answer) : Type 0 where
  pub answer : Answered upgrade_of 0 source source' out out' result

-- the same for the records from where a reader stands, and that no more was taken than the header allows,
-- and a byte
pub record UpgradesBehind (r : Standing) (source source' out out' : Told) (result : Answer) : Type 0 where
  pub moves : Moves r.place (r.place + (records_length r.layout + 1)) source source'
  pub answer : Answered (upgrade_behind r) r.place source source' out out' result
  pub no_memory : result ≢ Err NoMemory

-- that of the bytes, or want of memory
abbrev pub OrNoMemory : Answer → Answer → Type 0
OrNoMemory found (Err NoMemory) = ⊤
OrNoMemory found answer = answer ≡ found

-- where the source tells its bytes and neither count rose, they alone decide the answer
abbrev pub IsExact : Told → Told → Told → Told → Answer → Type 0
IsExact source source' out out' answer =
    (bytes : List ℕ) → source.bytes ≡ Some bytes → Quiet source source' → Quiet out out' → OrNoMemory (upgrade_of bytes).answer answer
