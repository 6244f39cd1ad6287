use Rattle.std.proofs.Common.{arith}
use Rattle.pic_fields.proofs.ReadLaws.{ends_then, goes_on_to_end, exits_to_end}
use Rattle.pic_fields.proofs.EndLaws.{ends_with, exits_at_end}
use Rattle.pic_grid.specs.declared.stop.EndMark.TheVariants.{Stopped}
use Rattle.pic_record.specs.Records.{AnEnd, last_record}
use Rattle.pic_record.specs.EndFields.{field_end_at}
use Rattle.pic_record.proofs.end_reader.read_field_end.Goals as goal

pub returns-in_err-step : goal.returns-in_err-step
unfolding field_end_at last_record
returns-in_err-step g c = exits_to_end _ (omega arith) c.from_residual.ensures.1 c.in_err-step.ensures.reads

pub returns-in_err-stop : goal.returns-in_err-stop
unfolding field_end_at last_record
returns-in_err-stop g c =
    goes_on_to_end _ c.in_ok-step.ensures.reads.answer (exits_to_end _ (omega arith) c.from_residual-in_err-stop.ensures.1 c.in_err-stop.ensures)

pub returns-in_err-read_end : goal.returns-in_err-read_end
unfolding field_end_at last_record
returns-in_err-read_end g c =
    goes_on_to_end _ c.in_ok-step.ensures.reads.answer (goes_on_to_end _ c.in_ok-stop.ensures.answer (exits_at_end _ c.from_residual-in_err-read_end.ensures.1
    c.in_err-read_end.ensures.reads))

pub returns : goal.returns
unfolding field_end_at last_record
returns g c =
    record {
      answer = ends_then _ c.in_ok-step.ensures.reads.answer (ends_then _ c.in_ok-stop.ensures.answer
          (ends_with (AnEnd (Stopped c.in_ok-step.step c.in_ok-stop.stop)) c.in_ok-read_end.ensures.reads.answer));
    }
