use Rattle.std.proofs.Common.{sym}
use Rattle.pic_block.specs.Cells.{axis_of}
use Rattle.pic_record.specs.EndFields.{axis_at}
use Rattle.pic_fields.proofs.ReadLaws.{read_as, read_same, exits_as}
use Rattle.pic_record.proofs.end_reader.read_axis.Goals as goal

pub returns-in_err-n : goal.returns-in_err-n
unfolding axis_at
returns-in_err-n g c = exits_as _ c.from_residual.ensures.1 c.in_err-n.ensures.reads

pub returns : goal.returns
unfolding axis_at
returns g c = record { answer = read_same (sym c.axis_of.ensures) (read_as axis_of c.in_ok-n.ensures.reads.answer) }
