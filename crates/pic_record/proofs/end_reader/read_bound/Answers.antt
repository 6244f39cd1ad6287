use Rattle.std.proofs.Common.{sym}
use Rattle.pic_record.specs.EndFields.{bound_of, bound_at}
use Rattle.pic_fields.proofs.ReadLaws.{read_as, read_same, exits_as}
use Rattle.pic_record.proofs.end_reader.read_bound.Goals as goal

pub returns-in_err-n : goal.returns-in_err-n
unfolding bound_at
returns-in_err-n g c = exits_as _ c.from_residual.ensures.1 c.in_err-n.ensures.reads

pub returns : goal.returns
unfolding bound_at
returns g c = record { answer = read_same (sym c.bound_of.ensures) (read_as bound_of c.in_ok-n.ensures.reads.answer) }
