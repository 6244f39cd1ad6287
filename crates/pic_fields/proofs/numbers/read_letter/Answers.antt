use Rattle.std.proofs.Common.{sym, ◌∙◌}
use Rattle.pic_fields.proofs.ReadLaws.{passes, refuses, exits_checked}
use Rattle.pic_fields.proofs.numbers.read_letter.Goals as goal

pub returns-in_err-byte-clause-reads : goal.returns-in_err-byte-clause-reads
returns-in_err-byte-clause-reads g c = exits_checked _ _ c.from_residual.ensures.1 c.in_err-byte.ensures

pub returns-then-not-is_same-clause-reads : goal.returns-then-not-is_same-clause-reads
returns-then-not-is_same-clause-reads g c = rw c.at.ensures (record
    { answer = refuses _ _ c.in_ok-byte.ensures.answer (sym c.is_same.ensures ∙ c.if-not-is_same.true) })

pub returns-clause-reads : goal.returns-clause-reads
returns-clause-reads g c = record { answer = passes _ _ c.in_ok-byte.ensures.answer (sym c.is_same.ensures ∙ c.if-not-is_same.false) }
