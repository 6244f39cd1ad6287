use Rattle.std.proofs.Common.{sym, ◌∙◌}
use Rattle.pic_fields.proofs.ReadLaws.{passes, refuses, exits_checked}
use Rattle.pic_dump.proofs.dump_reader.read_tag.Goals as goal

pub returns-in_err-tag-clause-reads : goal.returns-in_err-tag-clause-reads
returns-in_err-tag-clause-reads g c = exits_checked _ _ c.from_residual.ensures.1 c.in_err-tag.ensures

pub returns-then-not-is_tag-clause-reads : goal.returns-then-not-is_tag-clause-reads
returns-then-not-is_tag-clause-reads g c = rw c.at.ensures (record
    { answer = refuses _ _ c.in_ok-tag.ensures.answer (sym c.is_tag.ensures ∙ c.if-not-is_tag.true) })

pub returns-clause-reads : goal.returns-clause-reads
returns-clause-reads g c = record { answer = passes _ _ c.in_ok-tag.ensures.answer (sym c.is_tag.ensures ∙ c.if-not-is_tag.false) }

pub returns-clause-passes : goal.returns-clause-passes
returns-clause-passes g c = sym c.is_tag.ensures ∙ c.if-not-is_tag.false
