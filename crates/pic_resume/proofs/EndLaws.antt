-- Where reading the records of a dump ended: with the end record, a fault, or a read that failed.
use Rattle.std.proofs.Common.{◌≡◌, ℕ, zero, suc, ◌+◌, ◌<◌, [], ◌++◌, length, take, Bool, true, false, eqb, None, Result, Ok, Err, IsErrAnd}
use Rattle.std.proofs.Common.{refl, sym, ap, subst, ◌∙◌, arith, length-append}
use Rattle.std.specs.Prelude.{unwrap_or, ◌&&◌, ◌||◌}
use Rattle.std.proofs.Math.Seq.{take-append_seam}
use Rattle.std.proofs.lemmas.Result.{err_from_is_err_and}
use Rattle.pic_io.specs.Told.{Told}
use Rattle.pic_io.specs.Sinks.{Sinks, Wrote, outs, lines}
use Rattle.pic_io.proofs.Takes.{given_twice}
use Rattle.pic_grid.specs.declared.snapshot.Snapshot.{Snapshot}
use Rattle.pic_grid.specs.declared.stop.EndMark.{EndMark}
use Rattle.pic_fields.specs.Parser.{Input, input, fault, checked, mapped, done}
use Rattle.pic_fields.specs.Number.{byte_at}
use Rattle.pic_fields.specs.Reads.{HasReadAll, Stops}
use Rattle.pic_fields.specs.declared.read_stop.ReadStop.{ReadStop}
use Rattle.pic_fields.specs.declared.read_stop.ReadStop.TheVariants as read
use Rattle.pic_fields.proofs.ReadLaws.{some_rest, rose_after}
use Rattle.pic_fields.proofs.SpellLaws.{same_read, bind_parts, passed_test}
use Rattle.pic_record.specs.Due.{due_after}
use Rattle.pic_record.specs.Fields.{wrong_tag}
use Rattle.pic_record.specs.FrameFields.{frame_at}
use Rattle.pic_record.specs.Layout.{LayoutView}
use Rattle.pic_record.specs.Records.{AFrame, AnEnd, is_tag, behind_tag, record_at}
use Rattle.pic_record.specs.RecordText.{frame_tag, end_tag}
use Rattle.pic_record.proofs.MarkLaws.{of_frame}
use Rattle.pic_dump.specs.DumpRead.{RecordsRead, read_on}
use Rattle.pic_dump.specs.InTurn.{step_before}
use Rattle.pic_dump.specs.NextReads.{most_of, record_most}
use Rattle.pic_dump.specs.Standing.{Standing}
use Rattle.pic_dump.specs.Whole.{most_at}
use Rattle.pic_dump.proofs.ReadOnLaws.{on_end, on_fault}
use Rattle.pic_verify.specs.declared.verify_stop.VerifyStop.TheVariants as verify
use Rattle.pic_verify.specs.Stops as verify_stops
use Rattle.pic_verify.proofs.WalkLaws.{Follows, place_of, last_of, at_last, ends_records, stops_records}
use Rattle.pic_verify.proofs.ReachedLaws.{AreGood, reached_record}
use Rattle.pic_resume.specs.declared.carry_stop.CarryStop.{CarryStop}
use Rattle.pic_resume.specs.Carry.{Kept, kept_pieces, last_frame}
use Rattle.pic_resume.specs.CarryStops.{stop_of_read}
use Rattle.pic_resume.specs.Behind.{records_behind, AnsweredBehind, CarriesBehind}
use Rattle.pic_resume.proofs.BehindLaws.{Keeps, kept_are}

-- an end record stands behind a frame
first_mark : (v w : Bool) → ((true && v) || (false && w)) ≡ true → v ≡ true
first_mark true w passes = refl
first_mark false w passes = absurd cc

end_behind : (l : LayoutView) (i j : Input) (m : EndMark) → record_at l None i ≡ Ok (AnEnd m, j) → ⊥
unfolding record_at checked mapped done
end_behind l i j m is =
    let due = due_after l.steps l.every None in
    let (tag, k, e1, e2) = bind_parts (checked wrong_tag (is_tag due None) byte_at) (behind_tag l None due) i j (AnEnd m) is in
    let (read, passes) = passed_test i.place wrong_tag (is_tag due None) (byte_at i) tag k e1 in
    let frame = first_mark (eqb tag frame_tag) (eqb tag end_tag) passes in
    let behind : mapped AFrame (frame_at l (unwrap_or due 0)) k ≡ Ok (AnEnd m, j) = ap (λ p. p k) (sym (of_frame l None due tag frame)) ∙ e2 in
    let (f, n, e3, e4) = bind_parts (frame_at l (unwrap_or due 0)) (λ a. done (AFrame a)) k j (AnEnd m) behind in
    let (value, here) = same_read (AFrame f) (AnEnd m) n j e4 in
    absurd cc

frames_some : (l : LayoutView) (k : ℕ) (i j : Input) (m : EndMark) → record_at l (step_before l k) i ≡ Ok (AnEnd m, j) → 0 < k
frames_some l zero i j m is = absurd (end_behind l i j m is)
frames_some l (suc k) i j m is = omega arith

-- the end record
pub ends_kept : (steps : ℕ) (r : Standing) (before y z : Told) (a b : Sinks) (k : ℕ) (here : Standing) (step : ℕ) (state new : Snapshot) (mark : EndMark)
    → AreGood r before k y → Keeps steps r before a k here y b step state
    → HasReadAll (record_at here.layout here.last) here.place (here.place + record_most here) y (AnEnd mark) z
    → new.e ≡ state.e → new.b ≡ state.b → new.particles.items ≡ state.particles.items
    → CarriesBehind steps r before z a b new (Ok step)
unfolding records_behind
ends_kept steps r before y z a b k here step state new mark good so_far has e b_is particles =
    let l = r.layout in
    let follows = so_far.follows in
    let frames = follows.frames in
    let (held, was, is) = on_end r before y z frames here (here.place + record_most here) mark follows.on has in
    let kept = kept_are steps r held (frames, Ok mark) (Ok k) is (at_last r before y k here follows (Ok mark)) in
    let reads = subst (λ o. record_at l o (input here.place has.held) ≡ Ok (AnEnd mark, input has.stop [])) (last_of r before k here y follows)
    (subst (λ m. record_at m here.last (input here.place has.held) ≡ Ok (AnEnd mark, input has.stop [])) follows.on.layout has.reads) in
    let some = frames_some l k (input here.place has.held) (input has.stop []) mark reads in
    let holds = so_far.holds some in
    let walks = ends_records r before y z k here mark follows has in
    record {
      answer = record {
        last = last_frame frames;
        finds = record {
          calm = has.calm ∙ follows.on.calm;
          held = held;
          was = was;
          put = subst (λ ps. Wrote a b (outs ps) (lines ps)) (sym (ap (λ (q : Kept). q.pieces) kept)) so_far.put;
          answered = ap (λ (q : Kept). q.answer) kept;
        };
        end = has.end;
        holds = record { step = holds.step; e = e ∙ holds.e; b = b_is ∙ holds.b; particles = particles ∙ holds.particles };
        can = so_far.can some;
      };
      moves = walks.moves;
      reaches = reached_record r before y z k here good follows has.moves;
    }

-- how far the next record is read
next_end : (r : Standing) (before y : Told) (k : ℕ) (here : Standing) → Follows r before k here y → record_most here ≡ most_at r.layout k
next_end r before y k here follows =
    ap (λ l. most_of l (due_after l.steps l.every here.last)) follows.on.layout
    ∙ ap (λ o. most_of r.layout (due_after r.layout.steps r.layout.every o)) (last_of r before k here y follows)

-- reading the next record stopped
stops_answer : (steps : ℕ) (r : Standing) (before y z : Told) (a b : Sinks) (k : ℕ) (here : Standing) (step : ℕ) (state new : Snapshot) (stop : ReadStop)
    → Keeps steps r before a k here y b step state → Stops (record_at here.layout here.last) here.place (here.place + record_most here) y z stop
    → AnsweredBehind steps r before z a b new (Err (stop_of_read stop))
unfolding records_behind
stops_answer steps r before y z a b k here step state new read.ReadFault so_far stops =
    let l = r.layout in
    let follows = so_far.follows in
    let on = follows.on in
    let frames = follows.frames in
    let (rest, left) = some_rest y in
    let (held, was, is) = on.follows rest left in
    let more = read_on (suc on.n) l here.last (input here.place rest) in
    let size : length (frames ++ more.0) ≡ length frames + length more.0 = length-append frames more.0 in
    let records : length (records_behind r held).0 ≡ length (frames ++ more.0) = ap (λ (q : RecordsRead). length q.0) is in
    let front : take k (records_behind r held).0 ≡ frames = ap (λ (q : RecordsRead). take k q.0) is
    ∙ ap (λ n. take n (frames ++ more.0)) (sym follows.count)
    ∙ take-append_seam frames more.0 in
    let both = length-append on.moves.front stops.moves.front in
    let part = stops.less refl in
    let there = on.whole in
    let place = place_of r before k here y follows in
    let most = next_end r before y k here follows in
    record {
      rose = rose_after before y z on.calm stops.why;
      held = held;
      was = was;
      count = k;
      takes = record {
        front = on.moves.front ++ stops.moves.front;
        moved = given_twice before y z on.moves.front stops.moves.front on.moves.moved stops.moves.moved;
        exact = record {
          few = omega (arith, records, size, follows.count);
          ended = omega (arith, there, place, both);
          next = omega (arith, there, place, both, most, part);
        };
      };
      put = subst (λ fs. Wrote a b (outs (kept_pieces steps l fs)) (lines (kept_pieces steps l fs))) (sym front) so_far.put;
    }
stops_answer steps r before y z a b k here step state new (read.BadDump place cause) so_far stops =
    let follows = so_far.follows in
    let frames = follows.frames in
    let fails = stops.why in
    let (held, was, is) = on_fault r before y z frames here (fault place cause) follows.on fails in
    let kept = kept_are steps r held (frames, Err (fault place cause)) (Err (verify.BadDump place cause)) is
    (at_last r before y k here follows (Err (fault place cause))) in
    record {
      calm = fails.calm ∙ follows.on.calm;
      held = held;
      was = was;
      put = subst (λ ps. Wrote a b (outs ps) (lines ps)) (sym (ap (λ (q : Kept). q.pieces) kept)) so_far.put;
      answered = ap (λ (q : Kept). q.answer) kept;
    }

pub stops_kept : (steps : ℕ) (r : Standing) (before y z : Told) (a b : Sinks) (k : ℕ) (here : Standing) (step : ℕ) (state new : Snapshot) (stop : ReadStop)
    (result : Result ℕ CarryStop)
    → IsErrAnd result (λ u. u ≡ stop_of_read stop) → AreGood r before k y → Keeps steps r before a k here y b step state
    → Stops (record_at here.layout here.last) here.place (here.place + record_most here) y z stop → CarriesBehind steps r before z a b new result
stops_kept steps r before y z a b k here step state new stop result is good so_far stops =
    let q = err_from_is_err_and result is in
    let walks = stops_records r before y z k here stop (Err (verify_stops.stop_of_read stop)) refl so_far.follows stops in
    rw (q.1, q.2) (record {
      answer = stops_answer steps r before y z a b k here step state new stop so_far stops;
      moves = walks.moves;
      reaches = reached_record r before y z k here good so_far.follows stops.moves;
    })
