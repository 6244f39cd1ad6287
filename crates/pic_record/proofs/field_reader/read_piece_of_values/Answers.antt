use Rattle.std.proofs.Common.{◌≡◌, ◌*◌, length, take, arith}
use Rattle.std.proofs.lemmas.Result.{IfOk-from_err}
use Rattle.pic_fields.proofs.FieldLaws.{exits_filling}
use Rattle.pic_fields.proofs.PieceLaws.{reads_piece}
use Rattle.pic_record.proofs.PartLaws.{of_values}
use Rattle.pic_record.proofs.field_reader.read_piece_of_values.Goals as goal

pub returns-clause-reads : goal.returns-clause-reads
returns-clause-reads g c =
    let room = c.fill.new.room in
    let taken = c.in_ok-taken.taken in
    let count = length c.args.values.now in
    let size : length room ≡ count * 16 = omega (arith, c.fill.ensures.length) in
    let piece : c.new-piece.result ≡ take taken room = c.new-piece.ensures in
    let reads = rw piece at c.read_values.ensures.reads in
    reads_piece _ taken room _ (of_values c.args.by.now count) size (omega arith) c.in_ok-taken.ensures.fills reads

pub returns-in_err-taken-clause-reads : goal.returns-in_err-taken-clause-reads
returns-in_err-taken-clause-reads g c =
    exits_filling c.fill.new.room c.in_err-taken.field-0.0 (omega (arith, c.fill.ensures.length, c.requires.room)) c.from_residual.ensures.1
    c.in_err-taken.ensures.fills

pub returns-in_err-taken-clause-moderate : goal.returns-in_err-taken-clause-moderate
returns-in_err-taken-clause-moderate g c = IfOk-from_err _ _ c.from_residual.ensures.0
