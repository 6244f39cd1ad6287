use Rattle.std.proofs.Common.{sym, ◌∙◌}
use Rattle.pic_record.specs.FrameFields.{energy_at}
use Rattle.pic_fields.proofs.ReadLaws.{passes, refuses, exits_checked}
use Rattle.pic_record.proofs.frame_reader.read_energy.Goals as goal

pub returns-in_err-energy : goal.returns-in_err-energy
unfolding energy_at
returns-in_err-energy g c = exits_checked _ _ c.from_residual.ensures.1 c.in_err-energy.ensures

pub returns-then-not-is_same : goal.returns-then-not-is_same
unfolding energy_at
returns-then-not-is_same g c = rw c.at.ensures (record { answer = refuses _ _ c.in_ok-energy.ensures.answer (sym c.is_same.ensures ∙ c.if-not-is_same.true) })

pub returns : goal.returns
unfolding energy_at
returns g c = record { answer = passes _ _ c.in_ok-energy.ensures.answer (sym c.is_same.ensures ∙ c.if-not-is_same.false) }
