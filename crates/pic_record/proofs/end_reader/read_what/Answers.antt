use Rattle.std.proofs.Common.{sym}
use Rattle.pic_record.specs.EndFields.{what_of, what_at}
use Rattle.pic_fields.proofs.ReadLaws.{read_as, read_same, exits_as}
use Rattle.pic_record.proofs.end_reader.read_what.Goals as goal

pub returns-in_err-n : goal.returns-in_err-n
unfolding what_at
returns-in_err-n g c = exits_as _ c.from_residual.ensures.1 c.in_err-n.ensures.reads

pub returns : goal.returns
unfolding what_at
returns g c = record { answer = read_same (sym c.what_of.ensures) (read_as what_of c.in_ok-n.ensures.reads.answer) }
