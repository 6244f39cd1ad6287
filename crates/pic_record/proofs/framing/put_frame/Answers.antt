use Rattle.std.proofs.Common.{List, ℕ, ◌++◌, subst}
use Rattle.std.proofs.lemmas.Result.{err_from_is_err_and}
use Rattle.pic_io.specs.Sink.{AppendedFront}
use Rattle.pic_io.proofs.Puts.{front_of_more}
use Rattle.pic_record.specs.RecordText.{start_bytes, state_bytes, energies_bytes, frame_bytes}
use Rattle.pic_record.specs.Queues.{Queued}
use Rattle.pic_record.proofs.Waits.{puts_behind}
use Rattle.pic_record.proofs.framing.put_frame.Goals as goal

pub returns-in_err-put_state-clause-bytes : goal.returns-in_err-put_state-clause-bytes
unfolding frame_bytes
returns-in_err-put_state-clause-bytes g c =
    let exit = err_from_is_err_and c.from_residual.result c.from_residual.ensures.1 in
    let s = c.args.state.now in
    let before = g.O.Sink.told c.args.out.now in
    let now = g.O.Sink.told c.put_state.new.out in
    let state = state_bytes s.e s.b s.particles.items in
    let cut = subst (λ (w : List ℕ). AppendedFront before now (w ++ state)) c.start-room.ensures c.in_err-put_state.ensures.bytes.answer in
    rw (exit.1) (front_of_more before now (start_bytes c.args.step ++ state) (energies_bytes c.args.energies) cut)

pub returns-clause-bytes : goal.returns-clause-bytes
unfolding frame_bytes
returns-clause-bytes g c =
    let s = c.args.state.now in
    let before = g.O.Sink.told c.args.out.now in
    let mid = g.O.Sink.told c.put_state.new.out in
    let now = g.O.Sink.told c.put_end_of_frame.new.out in
    let state = state_bytes s.e s.b s.particles.items in
    let waits = c.put_state.new.room in
    let queued = subst (λ (w : List ℕ). Queued before mid w waits state) c.start-room.ensures c.in_ok-put_state.ensures.bytes.answer in
    puts_behind before mid now (start_bytes c.args.step) waits state (energies_bytes c.args.energies) c.put_end_of_frame.result queued
    c.put_end_of_frame.ensures.bytes
