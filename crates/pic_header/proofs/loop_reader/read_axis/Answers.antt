use Rattle.std.proofs.Common.{sym, ap, ◌∙◌}
use Rattle.pic_block.specs.Cells.{axis_of}
use Rattle.pic_block.proofs.CellLaws.{axis_of-number}
use Rattle.pic_fields.proofs.ReadLaws.{read_as, read_same, exits_as}
use Rattle.pic_header.specs.HeaderFields.{loop_axis_at}
use Rattle.pic_header.proofs.loop_reader.read_axis.Goals as goal

pub returns-in_err-number : goal.returns-in_err-number
unfolding loop_axis_at
returns-in_err-number g c = exits_as _ c.from_residual.ensures.1 c.in_err-number.ensures.reads

pub returns : goal.returns
unfolding loop_axis_at
returns g c =
    let is = sym (ap axis_of c.of_number.ensures) ∙ axis_of-number c.of_number.result in
    record { answer = read_same is (read_as axis_of c.in_ok-number.ensures.reads.answer) }
