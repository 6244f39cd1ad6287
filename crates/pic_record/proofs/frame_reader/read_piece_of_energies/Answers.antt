use Rattle.std.proofs.Common.{◌≡◌, length, take, arith}
use Rattle.pic_fields.proofs.FieldLaws.{exits_filling}
use Rattle.pic_fields.proofs.PieceLaws.{reads_piece}
use Rattle.pic_record.proofs.PartLaws.{of_energies}
use Rattle.pic_record.proofs.frame_reader.read_piece_of_energies.Goals as goal

pub returns : goal.returns
returns g c =
    let room = c.fill.new.room in
    let taken = c.in_ok-taken.taken in
    let size : length room ≡ 48 = c.fill.ensures.length in
    let piece : c.new-piece.result ≡ take taken room = c.new-piece.ensures in
    let reads = rw piece at c.read_energies.ensures in
    reads_piece 48 taken room _ (of_energies c.args.want) size (omega arith) c.in_ok-taken.ensures.fills reads

pub returns-in_err-taken : goal.returns-in_err-taken
returns-in_err-taken g c =
    exits_filling c.fill.new.room c.in_err-taken.field-0.0 (omega (arith, c.fill.ensures.length)) c.from_residual.ensures.1 c.in_err-taken.ensures.fills
