use Rattle.std.proofs.Common.{sym, ◌∙◌}
use Rattle.std.proofs.lemmas.Result.{IfOk-from_err}
use Rattle.pic_record.specs.EndFields.{code_at}
use Rattle.pic_fields.proofs.ReadLaws.{passes, refuses, exits_checked}
use Rattle.pic_record.proofs.end_reader.read_kind.Goals as goal

pub returns-in_err-kind-clause-reads : goal.returns-in_err-kind-clause-reads
unfolding code_at
returns-in_err-kind-clause-reads g c = exits_checked _ _ c.from_residual.ensures.1 c.in_err-kind.ensures

pub returns-then-not-is_kind-clause-reads : goal.returns-then-not-is_kind-clause-reads
unfolding code_at
returns-then-not-is_kind-clause-reads g c =
    rw c.at.ensures (record { answer = refuses _ _ c.in_ok-kind.ensures.answer (sym c.is_kind.ensures ∙ c.if-not-is_kind.true) })

pub returns-clause-reads : goal.returns-clause-reads
unfolding code_at
returns-clause-reads g c = record { answer = passes _ _ c.in_ok-kind.ensures.answer (sym c.is_kind.ensures ∙ c.if-not-is_kind.false) }

pub returns-clause-is : goal.returns-clause-is
returns-clause-is g c = sym c.is_kind.ensures ∙ c.if-not-is_kind.false

pub returns-in_err-kind-clause-is : goal.returns-in_err-kind-clause-is
returns-in_err-kind-clause-is g c = IfOk-from_err _ _ c.from_residual.ensures.0
