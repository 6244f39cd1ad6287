use Rattle.std.proofs.Common.{[], ◌∙◌, subst}
use Rattle.std.proofs.lemmas.Result.{err_from_is_err_and}
use Rattle.pic_io.specs.Sink.{Puts}
use Rattle.pic_record.specs.RecordText.{energies_bytes}
use Rattle.pic_record.proofs.Waits.{queued_push, cut_more, puts_rest}
use Rattle.pic_record.proofs.framing.put_end_of_frame.Goals as goal

pub returns-in_err-make_room-clause-bytes : goal.returns-in_err-make_room-clause-bytes
returns-in_err-make_room-clause-bytes g c =
    let exit = err_from_is_err_and c.from_residual.result c.from_residual.ensures.1 in
    let cut = c.in_err-make_room.ensures.bytes.answer in
    rw (exit.1) (cut_more (g.O.Sink.told c.args.out.now) (g.O.Sink.told c.make_room.new.out) c.args.room.now [] (energies_bytes c.args.energies) cut)

pub returns-clause-bytes : goal.returns-clause-bytes
returns-clause-bytes g c =
    let before = g.O.Sink.told c.args.out.now in
    let mid = g.O.Sink.told c.make_room.new.out in
    let now = g.O.Sink.told c.put.new.self in
    let energies = energies_bytes c.args.energies in
    let put = subst (λ t. Puts mid now t c.put.result) (c.bytes.ensures ∙ c.push_energies.ensures) c.put.ensures.bytes in
    puts_rest before mid now c.args.room.now _ energies c.put.result
    (queued_push before mid c.args.room.now c.make_room.new.room energies c.in_ok-make_room.ensures.bytes.answer) put
