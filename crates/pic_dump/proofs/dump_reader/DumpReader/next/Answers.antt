use Rattle.std.proofs.Common.{◌≡◌, ◌+◌, ℕ, Some, refl, sym, ap, ◌∙◌, arith}
use Rattle.pic_fields.proofs.ReadLaws.{read_then, read_same, read_as, read_up_to, ends_then, ended_up, stops_first, stops_then, stops_as}
use Rattle.pic_record.specs.RecordText.{frame_tag}
use Rattle.pic_record.specs.Due.{due_after}
use Rattle.pic_record.specs.Limits.{end_most}
use Rattle.std.specs.Prelude.{unwrap_or}
use Rattle.std.proofs.lemmas.Bool.{eq-eqb, ne_eqb}
use Rattle.pic_record.specs.FrameFields.{frame_of, frame_length}
use Rattle.pic_record.specs.Records.{RecordView, AFrame, record_at}
use Rattle.pic_record.proofs.MarkLaws.{of_frame, of_end, due_is}
use Rattle.pic_dump.proofs.NextLaws.{next_exits, most_least, most_frame, frame_after, due_most, readable_frame, stands_behind}
use Rattle.pic_dump.proofs.dump_reader.DumpReader.next.Goals as goal

pub returns-in_err-tag-clause-reads : goal.returns-in_err-tag-clause-reads
unfolding record_at
returns-in_err-tag-clause-reads g c =
    let l = c.self.inside.layout in
    let last = c.self.inside.last in
    let due : c.due_after-due.result ≡ due_after l.steps l.every last = rw (c.steps.ensures.value, c.every.ensures.value) at c.due_after-due.ensures.value in
    let least = most_least l (due_after l.steps l.every last) in
    let tag = rw due at c.in_err-tag.ensures.reads in
    rw (sym c.self.view_is) (next_exits _ {n = c.self.inside.place + 1} (omega (arith, least)) c.from_residual.ensures.1 (stops_first _
    (omega arith) tag.answer))

pub returns-in_err-energies-clause-reads : goal.returns-in_err-energies-clause-reads
unfolding record_at
returns-in_err-energies-clause-reads g c =
    let l = c.self.inside.layout in
    let last = c.self.inside.last in
    let due : c.due_after-due.result ≡ due_after l.steps l.every last = rw (c.steps.ensures.value, c.every.ensures.value) at c.due_after-due.ensures.value in
    let least = most_least l (due_after l.steps l.every last) in
    let tag = rw due at c.in_ok-tag.ensures.reads in
    let frame = eq-eqb _ frame_tag c.if-tag-eq-FRAME.true in
    let passes = rw due at c.in_ok-tag.ensures.passes in
    let whole = most_frame l (due_after l.steps l.every last) last c.in_ok-tag.tag passes frame in
    let stopped = rw (c.unwrap_or-step.ensures, due) at c.in_err-energies.ensures.reads in
    let wrapped = stops_as AFrame stopped.answer in
    let behind = rw (sym (of_frame l last (due_after l.steps l.every last) c.in_ok-tag.tag frame)) at wrapped in
    rw (sym c.self.view_is) (next_exits _ {n = c.self.inside.place + 1 + frame_length l} (omega (arith, whole)) c.from_residual-in_err-energies.ensures.1
    (stops_then _ tag.answer behind))

pub invariant_of-reader : goal.invariant_of-reader
invariant_of-reader g c =
    let l = c.self.inside.layout in
    let last = c.self.inside.last in
    let due : c.due_after-due.result ≡ due_after l.steps l.every last = rw (c.steps.ensures.value, c.every.ensures.value) at c.due_after-due.ensures.value in
    let least = most_least l (due_after l.steps l.every last) in
    let frame = eq-eqb _ frame_tag c.if-tag-eq-FRAME.true in
    let tag = rw due at c.in_ok-tag.ensures.passes in
    let step = c.unwrap_or-step.ensures ∙ ap (λ o. unwrap_or o 0) due in
    let limit = due_most c.due_after-due.result c.steps.result c.due_after-due.ensures.most in
    let stands = c.self.invariant in
    stands_behind (record { layout = l; place = c.self.inside.place; last = last }) c.in_ok-tag.tag c.frame_length.result
    (record { layout = stands.layout; place = stands.place; last = stands.last }) c.frame_length.ensures.most tag frame c.unwrap_or-step.result step
    (omega (arith, limit, c.unwrap_or-step.ensures, c.steps.ensures.value))

pub returns-then-tag-eq-FRAME-clause-reads : goal.returns-then-tag-eq-FRAME-clause-reads
unfolding record_at
returns-then-tag-eq-FRAME-clause-reads g c =
    let l = c.self.inside.layout in
    let last = c.self.inside.last in
    let due : c.due_after-due.result ≡ due_after l.steps l.every last = rw (c.steps.ensures.value, c.every.ensures.value) at c.due_after-due.ensures.value in
    let least = most_least l (due_after l.steps l.every last) in
    let tag = rw due at c.in_ok-tag.ensures.reads in
    let is_frame = eq-eqb _ frame_tag c.if-tag-eq-FRAME.true in
    let read = rw (c.unwrap_or-step.ensures, due) at c.in_ok-energies.ensures.reads in
    let wrapped = read_as AFrame read.answer in
    let behind = rw (sym (of_frame l last (due_after l.steps l.every last) c.in_ok-tag.tag is_frame)) at wrapped in
    let length = c.frame_length.ensures.value in
    let step : c.unwrap_or-step.result ≡ unwrap_or (due_after l.steps l.every last) 0 = c.unwrap_or-step.ensures ∙ ap (λ o. unwrap_or o 0) due in
    let passes = rw due at c.in_ok-tag.ensures.passes in
    let later = frame_after l.steps l.every last c.in_ok-tag.tag c.self.invariant.layout.every_least passes is_frame in
    let limit = due_most c.due_after-due.result c.steps.result c.due_after-due.ensures.most in
    let after = c.read_frame.new.state in
    let frame : ℕ → RecordView = λ s. AFrame (frame_of s after.e.values after.b.values after.particles.items c.in_ok-energies.energies) in
    let read = read_same (ap frame (sym step)) (read_up_to (omega (arith, length)) (read_then _ tag.answer behind)) in
    rw (sym c.self.view_is) (record {
      answer = record {
        read = read;
        layout = refl;
        place = omega (arith, length);
        last = refl;
        due = due_is (due_after l.steps l.every last) last c.in_ok-tag.tag passes is_frame ∙ ap Some (sym step);
        later = omega (arith, later, step);
        most = omega (arith, limit, c.unwrap_or-step.ensures, c.steps.ensures.value);
        held = c.in_ok-energies.ensures.held;
        readable = readable_frame l last _ read;
      };
    })

pub returns-in_err-mark-clause-reads : goal.returns-in_err-mark-clause-reads
unfolding record_at
returns-in_err-mark-clause-reads g c =
    let l = c.self.inside.layout in
    let last = c.self.inside.last in
    let due : c.due_after-due.result ≡ due_after l.steps l.every last = rw (c.steps.ensures.value, c.every.ensures.value) at c.due_after-due.ensures.value in
    let least = most_least l (due_after l.steps l.every last) in
    let tag = rw due at c.in_ok-tag.ensures.reads in
    let end = ne_eqb _ frame_tag c.if-tag-eq-FRAME.false in
    let stopped = rw due at c.in_err-mark.ensures in
    let behind = rw (sym (of_end l last (due_after l.steps l.every last) c.in_ok-tag.tag end)) at stopped.answer in
    rw (sym c.self.view_is) (next_exits _ {n = c.self.inside.place + 1 + end_most (due_after l.steps l.every last)} (omega (arith, least))
    c.from_residual-in_err-mark.ensures.1 (stops_then _ tag.answer behind))

pub returns-clause-reads : goal.returns-clause-reads
unfolding record_at
returns-clause-reads g c =
    let l = c.self.inside.layout in
    let last = c.self.inside.last in
    let due : c.due_after-due.result ≡ due_after l.steps l.every last = rw (c.steps.ensures.value, c.every.ensures.value) at c.due_after-due.ensures.value in
    let least = most_least l (due_after l.steps l.every last) in
    let tag = rw due at c.in_ok-tag.ensures.reads in
    let end = ne_eqb _ frame_tag c.if-tag-eq-FRAME.false in
    let read = rw due at c.in_ok-mark.ensures in
    let behind = rw (sym (of_end l last (due_after l.steps l.every last) c.in_ok-tag.tag end)) at read.answer in
    rw (sym c.self.view_is) (record {
      answer = ended_up {e = c.self.inside.place + 1 + end_most (due_after l.steps l.every last)} (omega (arith, least)) (ends_then _ tag.answer behind);
    })
