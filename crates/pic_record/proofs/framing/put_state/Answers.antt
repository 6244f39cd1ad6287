use Rattle.std.proofs.Common.{List, ◌++◌, subst}
use Rattle.std.proofs.lemmas.Result.{err_from_is_err_and}
use Rattle.pic_num.specs.declared.motion.Particle.{Particle}
use Rattle.pic_record.specs.RecordText.{values_bytes, particles_bytes, state_bytes}
use Rattle.pic_record.specs.Queues.{Queues}
use Rattle.pic_record.proofs.Waits.{queued_then, queued_cut, cut_more, queues_then}
use Rattle.pic_record.proofs.framing.put_state.Goals as goal

pub returns-in_err-put_values-clause-bytes : goal.returns-in_err-put_values-clause-bytes
unfolding state_bytes
returns-in_err-put_values-clause-bytes g c =
    let exit = err_from_is_err_and c.from_residual.result c.from_residual.ensures.1 in
    let state = c.args.state.now in
    let before = g.O.Sink.told c.args.out.now in
    let now = g.O.Sink.told c.put_values.new.out in
    let w = c.args.room.now in
    let e = values_bytes state.e.values in
    let b = values_bytes state.b.values in
    let cut = cut_more before now w e b c.in_err-put_values.ensures.bytes.answer in
    rw (exit.1) (record { answer = cut_more before now w (e ++ b) (particles_bytes state.particles.items) cut })

pub returns-in_err-put_values-2-clause-bytes : goal.returns-in_err-put_values-2-clause-bytes
unfolding state_bytes
returns-in_err-put_values-2-clause-bytes g c =
    let exit = err_from_is_err_and c.from_residual-in_err-put_values-2.result c.from_residual-in_err-put_values-2.ensures.1 in
    let state = c.args.state.now in
    let before = g.O.Sink.told c.args.out.now in
    let mid = g.O.Sink.told c.put_values.new.out in
    let now = g.O.Sink.told c.put_values-2.new.out in
    let w = c.args.room.now in
    let e = values_bytes state.e.values in
    let b = values_bytes state.b.values in
    let cut = queued_cut before mid now w c.put_values.new.room e b c.in_ok-put_values.ensures.bytes.answer c.in_err-put_values-2.ensures.bytes.answer in
    rw (exit.1) (record { answer = cut_more before now w (e ++ b) (particles_bytes state.particles.items) cut })

pub returns-clause-bytes : goal.returns-clause-bytes
unfolding state_bytes
returns-clause-bytes g c =
    let state = c.args.state.now in
    let before = g.O.Sink.told c.args.out.now in
    let mid = g.O.Sink.told c.put_values.new.out in
    let next = g.O.Sink.told c.put_values-2.new.out in
    let now = g.O.Sink.told c.put_particles.new.out in
    let w = c.args.room.now in
    let x = c.put_values.new.room in
    let y = c.put_values-2.new.room in
    let z = c.put_particles.new.room in
    let e = values_bytes state.e.values in
    let b = values_bytes state.b.values in
    let fields = queued_then before mid next w x y e b c.in_ok-put_values.ensures.bytes.answer c.in_ok-put_values-2.ensures.bytes.answer in
    let rest = subst (λ (xs : List Particle). Queues next now y z (particles_bytes xs) c.put_particles.result) c.deref.ensures.value
    c.put_particles.ensures.bytes in
    queues_then before next now w y z (e ++ b) (particles_bytes state.particles.items) c.put_particles.result fields rest
