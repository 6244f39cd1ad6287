use Rattle.std.proofs.Common.{[]}
use Rattle.std.proofs.lemmas.Result.{err_from_is_err_and}
use Rattle.pic_record.specs.RecordText.{values_bytes}
use Rattle.pic_record.proofs.Waits.{cut_more}
use Rattle.pic_record.proofs.framing.put_run.Goals as goal

pub returns-in_err-make_room-clause-bytes : goal.returns-in_err-make_room-clause-bytes
returns-in_err-make_room-clause-bytes g c =
    let exit = err_from_is_err_and c.from_residual.result c.from_residual.ensures.1 in
    let cut = c.in_err-make_room.ensures.bytes.answer in
    rw (exit.1) (record {
      answer = cut_more (g.O.Sink.told c.args.out.now) (g.O.Sink.told c.make_room.new.out) c.args.room.now []
          (values_bytes c.args.run.now) cut;
    })
