-- The next record, and the reader behind it.
use Rattle.std.proofs.Common.{◌≡◌, ℕ, ◌+◌, ◌^◌, ◌<◌, ◌≤◌, true, eqb, List, Option, Some, None, Result, IsErrAnd, inl, inr, refl, arith}
use Rattle.std.specs.Prelude.{IfSome, unwrap_or}
use Rattle.std.proofs.lemmas.Bool.{cases_lt, lt-ltb, le-ltb, false≢true}
use Rattle.std.proofs.lemmas.Result.{err_from_is_err_and}
use Rattle.pic_io.specs.Told.{Told}
use Rattle.pic_num.specs.declared.motion.Particle.{Particle}
use Rattle.pic_grid.specs.Lattice.{Field}
use Rattle.pic_fields.specs.declared.read_stop.ReadStop.{ReadStop}
use Rattle.pic_fields.specs.Parser.{input}
use Rattle.pic_fields.specs.Reads.{HasRead, Stops}
use Rattle.pic_fields.proofs.ReadLaws.{some_rest, stops_up}
use Rattle.pic_dump.specs.declared.dump_reader.Next.{Next}
use Rattle.pic_record.specs.RecordText.{frame_tag}
use Rattle.pic_record.specs.Due.{due_after}
use Rattle.pic_record.specs.FrameFields.{FrameView, frame_length}
use Rattle.pic_record.specs.Readable.{IsReadableFrame}
use Rattle.pic_record.proofs.FormatLaws.{frames_read_are_readable}
use Rattle.pic_record.specs.Limits.{end_most}
use Rattle.pic_record.specs.Layout.{LayoutView}
use Rattle.pic_record.specs.Records.{AFrame, is_tag, record_at}
use Rattle.pic_dump.specs.Standing.{Standing, IsStanding, passed}
use Rattle.pic_dump.specs.NextReads.{NextReads, most_of, record_most}
use Rattle.pic_record.proofs.MarkLaws.{two_marks}

-- a call that stopped
pub next_exits : (r : Standing) {n : ℕ} {x z : Told} {e b : Field} {ps : List Particle} {stop : ReadStop} {res : Result Next ReadStop}
    → n ≤ r.place + record_most r → IsErrAnd res (λ y. y ≡ stop) → Stops (record_at r.layout r.last) r.place n x z stop → NextReads r x z e b ps res
next_exits r {res = res} less is stops =
    let q = err_from_is_err_and res is in
    rw (q.1, q.2) (record { answer = stops_up less stops })

-- so many bytes may be taken as an end record has that may stand there, and one; and those of a frame
pub most_least : (l : LayoutView) (due : Option ℕ) → end_most due + 1 ≤ most_of l due
most_least l None = omega arith
most_least l (Some step) = omega arith

pub most_frame : (l : LayoutView) (due last : Option ℕ) (tag : ℕ) → is_tag due last tag ≡ true → eqb tag frame_tag ≡ true → most_of l due ≡ 1 + frame_length l
most_frame l None None tag passes frame = absurd (false≢true passes)
most_frame l None (Some s) tag passes frame = absurd (two_marks tag passes frame)
most_frame l (Some step) last tag passes frame = refl

-- a frame that may stand there comes after the last one
pub frame_after : (steps every : ℕ) (last : Option ℕ) (tag : ℕ) → 1 ≤ every → is_tag (due_after steps every last) last tag ≡ true → eqb tag frame_tag ≡ true
    → passed last ≤ unwrap_or (due_after steps every last) 0
frame_after steps every None tag least passes frame = omega arith
frame_after steps every (Some s) tag least passes frame = elim (cases_lt s steps) [
  | inl less ↦ rw (lt-ltb s steps less) (omega (arith, less, least))
  | inr over ↦ (let none = rw (le-ltb s steps over) at passes in absurd (two_marks tag none frame))
]

pub due_most : (due : Option ℕ) (n : ℕ) → IfSome due (λ step. step ≤ n) → unwrap_or due 0 ≤ n
due_most None n most = omega arith
due_most (Some step) n most = most

-- a frame that was read, whatever the source tells
pub readable_frame : (l : LayoutView) (last : Option ℕ) (f : FrameView) {s e : ℕ} {x z : Told} → HasRead (record_at l last) s x (AFrame f) e z
    → IsReadableFrame l f
readable_frame l last f {s = s} {e = e} {z = z} read =
    let (rest, left) = some_rest z in
    let (held, was, is) = read.reads rest left in
    frames_read_are_readable l last f (input s held) (input e rest) is

-- the reader behind a frame
pub stands_behind : (r : Standing) (tag count : ℕ) → IsStanding r → count < 2 ^ 29 → is_tag (due_after r.layout.steps r.layout.every r.last) r.last tag ≡ true
    → eqb tag frame_tag ≡ true
    → (step : ℕ) → step ≡ unwrap_or (due_after r.layout.steps r.layout.every r.last) 0 → step ≤ r.layout.steps
    → IsStanding (record { layout = r.layout; place = r.place + 1 + count; last = Some step })
stands_behind r tag count stands small passes frame step is most =
    let later = frame_after r.layout.steps r.layout.every r.last tag stands.layout.every_least passes frame in
    let place = stands.place in
    record { layout = stands.layout; place = omega (arith, later, place, small, is); last = most }
