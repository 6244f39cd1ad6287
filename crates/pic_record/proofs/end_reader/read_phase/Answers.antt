use Rattle.std.proofs.Common.{sym, ◌∙◌}
use Rattle.std.proofs.lemmas.Result.{err_from_is_err_and}
use Rattle.pic_fields.proofs.ReadLaws.{passes, refuses, read_as, read_same, stops_as, stops_checked}
use Rattle.pic_record.specs.EndFields.{is_phase, phase_of, code_at, phase_at}
use Rattle.pic_record.proofs.end_reader.read_phase.Goals as goal

pub returns-in_err-n : goal.returns-in_err-n
unfolding phase_at code_at
returns-in_err-n g c =
    let q = err_from_is_err_and c.from_residual.result c.from_residual.ensures.1 in
    rw (q.1, q.2) (record { answer = stops_as phase_of (stops_checked _ is_phase c.in_err-n.ensures.answer) })

pub returns-then-not-is_phase : goal.returns-then-not-is_phase
unfolding phase_at code_at
returns-then-not-is_phase g c =
    rw c.at.ensures (record { answer = stops_as phase_of (refuses _ is_phase c.in_ok-n.ensures.answer (sym c.is_phase.ensures ∙ c.if-not-is_phase.true)) })

pub returns : goal.returns
unfolding phase_at code_at
returns g c =
    record {
      answer = read_same (sym c.phase_of.ensures) (read_as phase_of (passes _ is_phase c.in_ok-n.ensures.answer (sym c.is_phase.ensures
          ∙ c.if-not-is_phase.false)));
    }
