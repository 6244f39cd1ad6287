use Rattle.std.proofs.Common.{sym, ◌∙◌}
use Rattle.pic_record.specs.Fields.{the_step}
use Rattle.pic_fields.proofs.ReadLaws.{passes, refuses, exits_checked}
use Rattle.pic_record.proofs.frame_reader.read_step.Goals as goal

pub returns-in_err-step : goal.returns-in_err-step
unfolding the_step
returns-in_err-step g c = exits_checked _ _ c.from_residual.ensures.1 c.in_err-step.ensures

pub returns-then-not-is_same_step : goal.returns-then-not-is_same_step
unfolding the_step
returns-then-not-is_same_step g c =
    rw c.at.ensures (record { answer = refuses _ _ c.in_ok-step.ensures.answer (sym c.is_same_step.ensures ∙ c.if-not-is_same_step.true) })

pub returns : goal.returns
unfolding the_step
returns g c = record { answer = passes _ _ c.in_ok-step.ensures.answer (sym c.is_same_step.ensures ∙ c.if-not-is_same_step.false) }
