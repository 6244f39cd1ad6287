use Rattle.std.proofs.Common.{arith}
use Rattle.pic_fields.proofs.ReadLaws.{ends_then, goes_on_to_end, exits_to_end}
use Rattle.pic_fields.proofs.EndLaws.{ends_with, exits_at_end}
use Rattle.pic_grid.specs.declared.stop.EndMark.TheVariants.{Done}
use Rattle.pic_record.specs.Records.{AnEnd, last_record}
use Rattle.pic_record.specs.EndFields.{done_at}
use Rattle.pic_record.proofs.end_reader.read_done.Goals as goal

pub returns-in_err-steps : goal.returns-in_err-steps
unfolding done_at last_record
returns-in_err-steps g c =
    let steps = rw c.steps.ensures.value at c.in_err-steps.ensures in
    exits_to_end _ (omega arith) c.from_residual.ensures.1 steps

pub returns-in_err-read_end : goal.returns-in_err-read_end
unfolding done_at last_record
returns-in_err-read_end g c =
    let steps = rw c.steps.ensures.value at c.in_ok-steps.ensures in
    goes_on_to_end _ steps.answer (exits_at_end _ c.from_residual-in_err-read_end.ensures.1 c.in_err-read_end.ensures.reads)

pub returns : goal.returns
unfolding done_at last_record
returns g c =
    let steps = rw c.steps.ensures.value at c.in_ok-steps.ensures in
    record { answer = ends_then _ steps.answer (ends_with (AnEnd (Done c.in_ok-steps.steps)) c.in_ok-read_end.ensures.reads.answer) }
