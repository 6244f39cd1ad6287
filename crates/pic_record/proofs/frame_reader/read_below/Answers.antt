use Rattle.std.proofs.Common.{sym, ◌∙◌}
use Rattle.std.proofs.lemmas.Result.{IfOk-from_err}
use Rattle.pic_record.specs.Fields.{below}
use Rattle.pic_fields.proofs.ReadLaws.{passes, refuses, exits_checked}
use Rattle.pic_record.proofs.frame_reader.read_below.Goals as goal

pub returns-in_err-n-clause-reads : goal.returns-in_err-n-clause-reads
unfolding below
returns-in_err-n-clause-reads g c = exits_checked _ _ c.from_residual.ensures.1 c.in_err-n.ensures

pub returns-then-not-is_below-clause-reads : goal.returns-then-not-is_below-clause-reads
unfolding below
returns-then-not-is_below-clause-reads g c =
    rw c.at.ensures (record { answer = refuses _ _ c.in_ok-n.ensures.answer (sym c.is_below.ensures ∙ c.if-not-is_below.true) })

pub returns-clause-reads : goal.returns-clause-reads
unfolding below
returns-clause-reads g c = record { answer = passes _ _ c.in_ok-n.ensures.answer (sym c.is_below.ensures ∙ c.if-not-is_below.false) }

pub returns-in_err-n-clause-below : goal.returns-in_err-n-clause-below
returns-in_err-n-clause-below g c = IfOk-from_err _ _ c.from_residual.ensures.0
