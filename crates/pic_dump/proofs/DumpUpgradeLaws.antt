-- A dump read and put, from its header and what its records come to.
use Rattle.std.proofs.Common.{◌≡◌, ◌≢◌, ℕ, suc, List, ◌∷◌, take, Some, Result, Ok, Err, IsErrAnd, inr}
use Rattle.std.proofs.Common.{refl, sym, ap, subst, ◌∙◌, arith}
use Rattle.std.proofs.lemmas.Result.{err_from_is_err_and}
use Rattle.pic_io.specs.Told.{Told, Rose, Calm}
use Rattle.pic_io.specs.Sink.{Appended, AppendedFront}
use Rattle.pic_io.specs.Sinks.{sinks, outs, CutAt}
use Rattle.pic_io.specs.declared.side.Side.TheVariants.{Out}
use Rattle.pic_io.proofs.Puts.{appended_none, appended_twice, cut_out, cut_failed, wrote_out}
use Rattle.pic_fields.specs.Parser.{input, Fault, fault}
use Rattle.pic_fields.specs.Reads.{Moves, HasRead}
use Rattle.pic_fields.specs.declared.read_stop.ReadStop.TheVariants as read
use Rattle.pic_fields.proofs.ReadLaws.{some_rest, rose_after, moves_then}
use Rattle.pic_header.specs.Header.{HeaderView, upgraded}
use Rattle.pic_header.specs.HeaderFields.{header_length, header_at, header_most}
use Rattle.pic_header.specs.HeaderText.{header_bytes}
use Rattle.pic_header.specs.HeadReads.{HeadReads, TakesLess}
use Rattle.pic_header.specs.declared.head_stop.HeadStop.{HeadStop}
use Rattle.pic_header.specs.declared.head_stop.HeadStop.TheVariants as head
use Rattle.pic_header.proofs.WithinLaws.{told_held}
use Rattle.pic_dump.specs.DumpRead.{DumpRead, of_header, read_dump}
use Rattle.pic_dump.specs.Standing.{Standing}
use Rattle.pic_dump.specs.Upgrade.{Answer, Upgrade, header_piece, upgrade_dump, upgrade_of, upgrade_behind, Puts, Answered, Upgrades, UpgradesBehind, IsExact}
use Rattle.pic_dump.specs.UpgradeStops.{stop_of_head}
use Rattle.pic_dump.specs.declared.upgrade_stop.UpgradeStop.TheVariants.{ReadFault, BadDump, WriteFault, NoMemory}
use Rattle.pic_dump.specs.Whole.{parts_of, dump_parts, parts_in, TakesWhole}
use Rattle.pic_dump.proofs.TakenLaws.{stands}
use Rattle.pic_dump.proofs.TextLaws.{header_some}
use Rattle.pic_dump.proofs.WholeLaws.{whole_none, whole_behind}

-- a header, and what is put of the records behind it
abbrev with_header : HeaderView → Upgrade → Upgrade
with_header h u = record { pieces = header_piece h ∷ u.pieces; parts = parts_of h u.parts.count; answer = u.answer }

of_parts : (h : HeaderView) (bytes rest : List ℕ) → header_at (input 0 bytes) ≡ Ok (h, input (header_length h) rest)
    → upgrade_of bytes ≡ with_header h (upgrade_behind (stands h) rest)
unfolding upgrade_of upgrade_behind read_dump
of_parts h bytes rest is = ap (λ r. upgrade_dump (of_header r)) is

-- the parts of some bytes, as those of what is put of them
parts_taken : (bytes : List ℕ) (whole : ℕ) (x z : Told) → TakesWhole (parts_in bytes) 0 whole x z → TakesWhole (upgrade_of bytes).parts 0 whole x z
unfolding upgrade_of
parts_taken bytes whole x z takes = go (read_dump bytes) takes
  where
    go : (r : Result DumpRead Fault) → TakesWhole (dump_parts r) 0 whole x z → TakesWhole (upgrade_dump r).parts 0 whole x z
    go (Ok d) first = first
    go (Err f) first = first

-- a header that isn't there
head_answer : {B : Type 0} (view : B → HeaderView) (x z o : Told) (stop : HeadStop)
    → HeadReads view header_at 0 header_length header_most x z (Err stop) → (stop ≡ head.Read read.ReadFault → TakesLess header_at 0 x z)
    → Answered upgrade_of 0 x z o o (Err (stop_of_head stop))
unfolding upgrade_of read_dump
head_answer view x z o (head.Read read.ReadFault) first less =
    let stops = first.answer in
    let (held, was, takes) = whole_none x z stops (less refl) in
    record { rose = stops.why; calm_out = refl; held = held; was = was; whole = 0; put = appended_none o; takes = parts_taken held 0 x z takes }
head_answer view x z o (head.Read (read.BadDump place cause)) first less =
    let stops = first.answer in
    let fails = stops.why in
    let same : upgrade_of fails.held ≡ upgrade_dump (Err (fault place cause)) = ap (λ r. upgrade_dump (of_header r)) fails.fails in
    record {
      calm = fails.calm;
      calm_out = refl;
      held = fails.held;
      was = fails.was;
      put = subst (Appended o o) (sym (ap (λ (u : Upgrade). outs u.pieces) same)) (appended_none o);
      answered = ap (λ (u : Upgrade). u.answer) same;
      moves = subst (λ (u : Upgrade). Moves 0 (u.parts.end u.parts.count) x z) (sym same) stops.moves;
    }
head_answer view x z o head.NoMemory first less = record { calm = first.answer.calm; calm_out = refl; put = appended_none o }

pub stops_head : {B : Type 0} (view : B → HeaderView) (x z o : Told) (stop : HeadStop) (result : Answer)
    → IsErrAnd result (λ u. u ≡ stop_of_head stop) → HeadReads view header_at 0 header_length header_most x z (Err stop)
    → (stop ≡ head.Read read.ReadFault → TakesLess header_at 0 x z) → Upgrades x z o o result
stops_head view x z o stop result is first less =
    let q = err_from_is_err_and result is in
    rw (q.1, q.2) (record { answer = head_answer view x z o stop first less })

-- want of memory behind the header
pub starves : (h : HeaderView) (x y o : Told) (result : Answer)
    → IsErrAnd result (λ u. u ≡ NoMemory) → HasRead header_at 0 x h (header_length h) y → Upgrades x y o o result
starves h x y o result is first =
    let q = err_from_is_err_and result is in
    rw (q.1, q.2) (record { answer = record { calm = first.calm; calm_out = refl; put = appended_none o } })

-- the put of the header failed
pub cuts_header : (h new : HeaderView) (x y o p : Told) (result : Answer)
    → IsErrAnd result (λ u. u ≡ WriteFault) → HasRead header_at 0 x h (header_length h) y → new ≡ upgraded h
    → AppendedFront o p (header_bytes new) → Rose o p → Upgrades x y o p result
cuts_header h new x y o p result stop first is front rose =
    let (rest, left) = some_rest y in
    let (held, was, reads) = first.reads rest left in
    let same = of_parts h held rest reads in
    let others = (upgrade_behind (stands h) rest).pieces in
    let front_is = subst (λ (n : HeaderView). AppendedFront o p (header_bytes n)) is front in
    let q = err_from_is_err_and result stop in
    let one : Upgrades x y o p (Err WriteFault) = record {
      answer = record {
        calm = first.calm;
        held = held;
        was = was;
        cut = λ report. subst (λ (u : Upgrade). CutAt Out (sinks o report) (sinks p report) u.pieces) (sym same)
            (cut_out o p report (header_piece h) others (header_some (upgraded h)) front_is rose);
        last = 0;
        few = omega arith;
        moves = subst (λ (u : Upgrade). Moves 0 (u.parts.end 0) x y) (sym same) first.moves;
      };
    } in
    rw (q.1, q.2) one

-- the header was put, and then records
puts_behind : (h : HeaderView) (x y z o p q : Told) (answer : Answer) → HasRead header_at 0 x h (header_length h) y
    → Appended o p (header_bytes (upgraded h)) → Calm o p → Puts (upgrade_behind (stands h)) (header_length h) y z p q answer
    → Puts upgrade_of 0 x z o q answer
unfolding upgrade_behind
puts_behind h x y z o p q answer first put calm second =
    let (held, was, reads) = first.reads second.held second.was in
    let same = of_parts h held second.held reads in
    let u = upgrade_behind (stands h) second.held in
    record {
      calm = second.calm ∙ first.calm;
      calm_out = second.calm_out ∙ calm;
      held = held;
      was = was;
      put = subst (λ (v : Upgrade). Appended o q (outs v.pieces)) (sym same) (appended_twice o p q (header_bytes (upgraded h)) (outs u.pieces) put second.put);
      answered = ap (λ (v : Upgrade). v.answer) same ∙ second.answered;
      moves = subst (λ (v : Upgrade). Moves 0 (v.parts.end v.parts.count) x z) (sym same) (moves_then first.moves second.moves);
    }

answer_behind : (h : HeaderView) (x y z o p q : Told) (answer : Answer) → HasRead header_at 0 x h (header_length h) y
    → Appended o p (header_bytes (upgraded h)) → Calm o p → answer ≢ Err NoMemory
    → Answered (upgrade_behind (stands h)) (header_length h) y z p q answer → Answered upgrade_of 0 x z o q answer
unfolding upgrade_behind
answer_behind h x y z o p q (Ok frames) first put calm fed second = (puts_behind h x y z o p q (Ok frames) first put calm second.0, second.1)
answer_behind h x y z o p q (Err ReadFault) first put calm fed second =
    let (held, was, reads) = first.reads second.held second.was in
    let same = of_parts h held second.held reads in
    let u = upgrade_behind (stands h) second.held in
    let front = outs (take second.whole u.pieces) in
    record {
      rose = rose_after x y z first.calm second.rose;
      calm_out = second.calm_out ∙ calm;
      held = held;
      was = was;
      whole = suc second.whole;
      put = subst (λ (v : Upgrade). Appended o q (outs (take (suc second.whole) v.pieces))) (sym same)
          (appended_twice o p q (header_bytes (upgraded h)) front put second.put);
      takes = subst (λ (v : Upgrade). TakesWhole v.parts 0 (suc second.whole) x z) (sym same)
          (whole_behind h u.parts.count second.whole x y z first second.takes);
    }
answer_behind h x y z o p q (Err (BadDump place cause)) first put calm fed second = puts_behind h x y z o p q (Err (BadDump place cause)) first put calm second
answer_behind h x y z o p q (Err WriteFault) first put calm fed second =
    let (held, was, reads) = first.reads second.held second.was in
    let same = of_parts h held second.held reads in
    record {
      calm = second.calm ∙ first.calm;
      held = held;
      was = was;
      cut = λ report. subst (λ (v : Upgrade). CutAt Out (sinks o report) (sinks q report) v.pieces) (sym same)
          (inr (sinks p report, wrote_out o p report (header_bytes (upgraded h)) put calm, second.cut report));
      last = suc second.last;
      few = omega (arith, second.few, ap (λ (v : Upgrade). v.parts.count) same);
      moves = subst (λ (v : Upgrade). Moves 0 (v.parts.end (suc second.last)) x z) (sym same) (moves_then first.moves second.moves);
    }
answer_behind h x y z o p q (Err NoMemory) first put calm fed second = absurd (fed refl)

pub upgrades_behind : (h new : HeaderView) (r : Standing) (x y z o p q : Told) (result : Answer) → HasRead header_at 0 x h (header_length h) y
    → r ≡ stands h → new ≡ upgraded h → Appended o p (header_bytes new) → Calm o p → UpgradesBehind r y z p q result → Upgrades x z o q result
upgrades_behind h new r x y z o p q result first at is put calm second =
    let there = rw at at second in
    let here = subst (λ (n : HeaderView). Appended o p (header_bytes n)) is put in
    record { answer = answer_behind h x y z o p q result first here calm there.no_memory there.answer }

-- an answer that the bytes decide
exact_puts : (x z o q : Told) (bytes : List ℕ) (answer : Answer) → x.bytes ≡ Some bytes → Puts upgrade_of 0 x z o q answer
    → answer ≡ (upgrade_of bytes).answer
exact_puts x z o q bytes answer told puts =
    sym puts.answered ∙ ap (λ b. (upgrade_of b).answer) (told_held x.bytes bytes puts.held told puts.was)

pub exact : (x z o q : Told) (answer : Answer) → Upgrades x z o q answer → IsExact x z o q answer
exact x z o q (Ok frames) v bytes told quiet quiet_out = exact_puts x z o q bytes (Ok frames) told v.answer.0
exact x z o q (Err ReadFault) v bytes told quiet quiet_out = absurd (quiet v.answer.rose)
exact x z o q (Err (BadDump place cause)) v bytes told quiet quiet_out = exact_puts x z o q bytes (Err (BadDump place cause)) told v.answer
exact x z o q (Err WriteFault) v bytes told quiet quiet_out =
    let failed = v.answer in
    absurd (quiet_out (cut_failed Out (sinks o o) (sinks q o) (upgrade_of failed.held).pieces (failed.cut o)).0)
exact x z o q (Err NoMemory) v bytes told quiet quiet_out = tt
