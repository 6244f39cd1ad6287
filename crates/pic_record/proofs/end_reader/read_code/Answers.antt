use Rattle.std.proofs.Common.{sym, ◌∙◌}
use Rattle.std.proofs.lemmas.Result.{IfOk-from_err}
use Rattle.pic_record.specs.EndFields.{code_at}
use Rattle.pic_fields.proofs.ReadLaws.{passes, refuses, exits_checked}
use Rattle.pic_record.proofs.end_reader.read_code.Goals as goal

pub returns-in_err-n-clause-reads : goal.returns-in_err-n-clause-reads
unfolding code_at
returns-in_err-n-clause-reads g c = exits_checked _ _ c.from_residual.ensures.1 c.in_err-n.ensures

pub returns-then-not-is_from_to-clause-reads : goal.returns-then-not-is_from_to-clause-reads
unfolding code_at
returns-then-not-is_from_to-clause-reads g c =
    rw c.at.ensures (record { answer = refuses _ _ c.in_ok-n.ensures.answer (sym c.is_from_to.ensures ∙ c.if-not-is_from_to.true) })

pub returns-clause-reads : goal.returns-clause-reads
unfolding code_at
returns-clause-reads g c = record { answer = passes _ _ c.in_ok-n.ensures.answer (sym c.is_from_to.ensures ∙ c.if-not-is_from_to.false) }

pub returns-in_err-n-clause-low : goal.returns-in_err-n-clause-low
returns-in_err-n-clause-low g c = IfOk-from_err _ _ c.from_residual.ensures.0

pub returns-in_err-n-clause-high : goal.returns-in_err-n-clause-high
returns-in_err-n-clause-high g c = IfOk-from_err _ _ c.from_residual.ensures.0
