-- What carrying a dump on to more steps comes to: the header with these steps, the frames that the longer
-- run has of those in the dump, and where it goes on. This project's profile.
use Rattle.std.specs.Prelude.{ℕ, zero, suc, ◌-◌, List, [], length, map, take, slice_index_or, Result, Ok, Err}
use Rattle.std.specs.List.{filter}
use Rattle.pic_io.specs.Sinks.{Piece}
use Rattle.pic_energy.specs.Line.{frame_line}
use Rattle.pic_fields.specs.Parser.{Fault}
use Rattle.pic_walk.specs.Walk.{◌>>=◌}
use Rattle.pic_deck.specs.declared.refusal.Refusal.{Refusal}
use Rattle.pic_deck.specs.Keys.{steps_fit}
use Rattle.pic_deck.specs.Reading.{as_read}
use Rattle.pic_deck.specs.Tiles.{tiles_fit}
use Rattle.pic_header.specs.Header.{HeaderView, with_steps}
use Rattle.pic_header.specs.HeaderText.{header_bytes}
use Rattle.pic_record.specs.Due.{is_due}
use Rattle.pic_record.specs.FrameFields.{FrameView, frame_of}
use Rattle.pic_record.specs.Layout.{LayoutView, layout_of}
use Rattle.pic_record.specs.Records.{AFrame}
use Rattle.pic_record.specs.Spelling.{record_bytes}
use Rattle.pic_dump.specs.DumpRead.{DumpRead, read_dump}
use Rattle.pic_verify.specs.declared.verify_stop.VerifyStop.TheVariants.{Broken}
use Rattle.pic_verify.specs.Verified.{Verdict, verdict_of}
use Rattle.pic_resume.specs.declared.carry_stop.CarryStop.{CarryStop}
use Rattle.pic_resume.specs.declared.carry_stop.CarryStop.TheVariants.{ReadFault, BadDump, Refused}
use Rattle.pic_resume.specs.CarryStops.{stop_of_verdict}

-- so many steps in all, no fewer than the header has, and then tiles of its cells; or why these are refused
unfoldable pub asked : ℕ → List ℕ → HeaderView → Result (Unit {0}) Refusal
asked steps tiles h = as_read (steps_fit h.steps steps >>= (λ _. tiles_fit h.cells tiles))

-- the frames before the first that breaks Gauss's law, by the verdict on them
abbrev pub good_frames : Verdict → List FrameView → List FrameView
good_frames (Err (Broken k at)) frames = take k frames
good_frames verdict frames = frames

-- the frames that are due in a run of so many steps
abbrev pub kept_frames : ℕ → ℕ → List FrameView → List FrameView
kept_frames steps every frames = filter (λ f. is_due steps every f.step) frames

-- the text of a frame, and its line
abbrev pub kept_piece : LayoutView → FrameView → Piece
kept_piece l f = record { out = record_bytes l (AFrame f); line = frame_line f.step f.energies }

-- those of the frames that are kept
abbrev pub kept_pieces : ℕ → LayoutView → List FrameView → List Piece
kept_pieces steps l frames = map (kept_piece l) (kept_frames steps l.every frames)

-- the last frame, of those that there are
abbrev pub no_frame : FrameView
no_frame = frame_of 0 [] [] [] (record { kinetic = 0; electric = 0; magnetic = 0 })

abbrev pub last_frame : List FrameView → FrameView
last_frame frames = slice_index_or frames (length frames - 1) no_frame

-- what is put of the frames behind a header, and the last of them, or why no run goes on from it
pub record Kept : Type 0 where
  pub pieces : List Piece
  pub answer : Result FrameView CarryStop

abbrev pub last_or_stop : List FrameView → Verdict → Result FrameView CarryStop
last_or_stop frames (Ok count) = Ok (last_frame frames)
last_or_stop frames (Err stop) = Err (stop_of_verdict stop)

-- of frames with a verdict
abbrev pub kept_by : ℕ → LayoutView → List FrameView → Verdict → Kept
kept_by steps l frames verdict = record { pieces = kept_pieces steps l (good_frames verdict frames); answer = last_or_stop frames verdict }

-- where a run goes on: under this header, from this frame
pub record GoesOn : Type 0 where
  pub header : HeaderView
  pub last : FrameView

abbrev pub going_on : HeaderView → Result FrameView CarryStop → Result GoesOn CarryStop
going_on h (Ok f) = Ok (record { header = h; last = f })
going_on h (Err stop) = Err stop

-- the head of a dump, the frames that are kept with their lines, and the answer
pub record Carry : Type 0 where
  pub head : List ℕ
  pub kept : List Piece
  pub answer : Result GoesOn CarryStop

abbrev pub under_header : HeaderView → Kept → Carry
under_header h k = record { head = header_bytes h; kept = k.pieces; answer = going_on h k.answer }

-- nothing is put
abbrev pub nothing_but : CarryStop → Carry
nothing_but stop = record { head = []; kept = []; answer = Err stop }

abbrev pub unless_refused : Result (Unit {0}) Refusal → Carry → Carry
unless_refused (Ok _) c = c
unless_refused (Err refusal) c = nothing_but (Refused refusal)

-- what is kept of a dump, under its header with so many steps, where these and the tiles are allowed
abbrev pub carry_kept : ℕ → List ℕ → HeaderView → Kept → Carry
carry_kept steps tiles h k = unless_refused (asked steps tiles h) (under_header (with_steps steps h) k)

-- of a dump, by the verdict on it, or of bytes whose header has a fault
abbrev pub carry_dump : ℕ → List ℕ → Result DumpRead Fault → Carry
carry_dump steps tiles (Ok d) = carry_kept steps tiles d.header (kept_by steps (layout_of d.header) d.frames (verdict_of (Ok d)))
carry_dump steps tiles (Err f) = nothing_but (BadDump f.place f.cause)

-- of some bytes
unfoldable pub carry_of : ℕ → List ℕ → List ℕ → Carry
carry_of steps tiles bytes = carry_dump steps tiles (read_dump bytes)

-- of frames behind which reading failed
abbrev pub kept_before : ℕ → LayoutView → List FrameView → Kept
kept_before steps l frames = record { pieces = kept_pieces steps l frames; answer = Err ReadFault }

-- of a dump of which reading failed behind the header and so many frames
abbrev pub carry_part : ℕ → List ℕ → ℕ → Result DumpRead Fault → Carry
carry_part steps tiles count (Ok d) = carry_kept steps tiles d.header (kept_before steps (layout_of d.header) (take count d.frames))
carry_part steps tiles count (Err f) = nothing_but ReadFault

abbrev pub failed : Carry → Carry
failed c = record c { answer = Err ReadFault }

-- of some bytes of which reading failed with so many parts whole: the header is the first, then come frames
unfoldable pub carry_front : ℕ → List ℕ → List ℕ → ℕ → Carry
carry_front steps tiles bytes zero = nothing_but ReadFault
carry_front steps tiles bytes (suc count) = failed (carry_part steps tiles count (read_dump bytes))
