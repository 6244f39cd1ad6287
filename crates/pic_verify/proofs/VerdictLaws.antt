-- The verdict on a dump, from that on its records.
use Rattle.std.proofs.Common.{◌≡◌, ℕ, List, Some, None, Ok, Err, IsErrAnd}
use Rattle.std.proofs.Common.{sym, ap, ◌∙◌}
use Rattle.std.proofs.lemmas.Result.{err_from_is_err_and}
use Rattle.pic_io.specs.Told.{Told}
use Rattle.pic_fields.specs.Reads.{HasRead}
use Rattle.pic_fields.proofs.ReadLaws.{rose_after}
use Rattle.pic_fields.specs.declared.read_stop.ReadStop.TheVariants as read
use Rattle.pic_header.specs.Header.{HeaderView}
use Rattle.pic_header.specs.HeaderFields.{header_length, header_at, header_most}
use Rattle.pic_record.specs.Layout.{layout_of}
use Rattle.pic_header.specs.HeadReads.{HeadReads}
use Rattle.pic_header.proofs.WithinLaws.{told_held}
use Rattle.pic_dump.specs.Standing.{Standing}
use Rattle.pic_header.specs.declared.head_stop.HeadStop.{HeadStop}
use Rattle.pic_header.specs.declared.head_stop.HeadStop.TheVariants as head
use Rattle.pic_verify.specs.declared.verify_stop.VerifyStop.TheVariants.{ReadFault, BadDump, Broken, NoMemory}
use Rattle.pic_verify.specs.Stops.{stop_of_head}
use Rattle.pic_dump.specs.DumpRead.{read_dump}
use Rattle.pic_verify.specs.Verified.{Verdict, walked, verified}
use Rattle.pic_verify.specs.Verifies.{Finds, Answered, Verifies, Walks, IsExact}
use Rattle.pic_verify.proofs.WalkLaws.{verdict_by, on_records}
use Rattle.pic_dump.specs.Allowed.{TakesAllowed}
use Rattle.pic_dump.proofs.TakenLaws.{records_taken}

-- where a reader stands behind a header
abbrev pub behind : HeaderView → ℕ → Standing
behind h place = record { layout = layout_of h; place = place; last = None }

finds_behind : (h : HeaderView) (place : ℕ) (x y z : Told) (answer : Verdict)
    → HasRead header_at 0 x h place y → Finds (on_records (behind h place)) y z answer → Finds verified x z answer
unfolding verified read_dump walked
finds_behind h place x y z answer first finds =
    let (held, was, is) = first.reads finds.held finds.was in
    record { calm = finds.calm ∙ first.calm; held = held; was = was; verdict = ap verdict_by is ∙ finds.verdict }

answered_behind : (h : HeaderView) (place : ℕ) (x y z : Told) (answer : Verdict)
    → HasRead header_at 0 x h place y → Answered (on_records (behind h place)) y z answer → Answered verified x z answer
answered_behind h place x y z (Ok frames) first second = (finds_behind h place x y z (Ok frames) first second.0, second.1)
answered_behind h place x y z (Err ReadFault) first second = rose_after x y z first.calm second
answered_behind h place x y z (Err (BadDump at cause)) first second = finds_behind h place x y z (Err (BadDump at cause)) first second
answered_behind h place x y z (Err (Broken frame at)) first second = finds_behind h place x y z (Err (Broken frame at)) first second
answered_behind h place x y z (Err NoMemory) first second = second ∙ first.calm

-- the header, and then the records
pub verifies_behind : (h : HeaderView) (place : ℕ) (r : Standing) (x y z : Told) (answer : Verdict)
    → HasRead header_at 0 x h place y → r ≡ behind h place → Walks r y z answer → Verifies x z answer
verifies_behind h place r x y z answer first is walks =
    let there = rw is at walks in
    record { answer = answered_behind h place x y z answer first there.answer }

stops_answer : {B : Type 0} (x z : Told) (stop : HeadStop) (view : B → HeaderView) (end : HeaderView → ℕ)
    → HeadReads view header_at 0 end header_most x z (Err stop) → Answered verified x z (Err (stop_of_head stop))
unfolding verified read_dump walked
stops_answer x z (head.Read read.ReadFault) view end first = first.answer.why
stops_answer x z (head.Read (read.BadDump place cause)) view end first =
    let fails = first.answer.why in
    record { calm = fails.calm; held = fails.held; was = fails.was; verdict = ap verdict_by fails.fails }
stops_answer x z head.NoMemory view end first = first.answer.calm

-- a header that isn't there
pub verifies_head : {B : Type 0} (view : B → HeaderView) (end : HeaderView → ℕ) (x z : Told) (stop : HeadStop) (result : Verdict)
    → IsErrAnd result (λ u. u ≡ stop_of_head stop) → HeadReads view header_at 0 end header_most x z (Err stop) → Verifies x z result
verifies_head view end x z stop result is first =
    let q = err_from_is_err_and result is in
    rw (q.1, q.2) (record { answer = stops_answer x z stop view end first })

exact_finds : (x z : Told) (bytes : List ℕ) (answer : Verdict) → x.bytes ≡ Some bytes → Finds verified x z answer → answer ≡ verified bytes
exact_finds x z bytes answer told finds = sym finds.verdict ∙ ap verified (told_held x.bytes bytes finds.held told finds.was)

-- an answer that the bytes decide
pub exact : (x z : Told) (answer : Verdict) → Verifies x z answer → IsExact x z answer
exact x z (Ok frames) v bytes told quiet = exact_finds x z bytes (Ok frames) told v.answer.0
exact x z (Err ReadFault) v bytes told quiet = absurd (quiet v.answer)
exact x z (Err (BadDump place cause)) v bytes told quiet = exact_finds x z bytes (Err (BadDump place cause)) told v.answer
exact x z (Err (Broken frame at)) v bytes told quiet = exact_finds x z bytes (Err (Broken frame at)) told v.answer
exact x z (Err NoMemory) v bytes told quiet = tt

-- behind records
pub walks_taken : (h : HeaderView) (r : Standing) (x y z : Told) (answer : Verdict)
    → HasRead header_at 0 x h (header_length h) y → r ≡ behind h (header_length h) → Walks r y z answer → TakesAllowed x z
walks_taken h r x y z answer first is walks = records_taken h r x y z first is walks.moves
