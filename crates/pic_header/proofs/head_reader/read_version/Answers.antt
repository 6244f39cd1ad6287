use Rattle.std.proofs.Common.{ℕ, Bool, ◌+◌, ◌-◌, sym, ◌∙◌}
use Rattle.std.proofs.lemmas.Result.{err_from_is_err_and}
use Rattle.pic_num.specs.Limits.{most_version}
use Rattle.pic_fields.specs.Number.{is_from_to}
use Rattle.pic_fields.proofs.ReadLaws.{passes, refuses, read_as, stops_as, stops_checked}
use Rattle.pic_header.specs.HeaderText.{zero_digit}
use Rattle.pic_header.specs.HeaderFields.{version_at}
use Rattle.pic_header.proofs.head_reader.read_version.Goals as goal

abbrev is_digit : ℕ → Bool
is_digit n = is_from_to (zero_digit + 1) (zero_digit + most_version) n

abbrev version_of : ℕ → ℕ
version_of digit = digit - zero_digit

pub returns-in_err-digit-clause-reads : goal.returns-in_err-digit-clause-reads
unfolding version_at
returns-in_err-digit-clause-reads g c =
    let q = err_from_is_err_and c.from_residual.result c.from_residual.ensures.1 in
    rw (q.1, q.2) (record { answer = stops_as version_of (stops_checked _ is_digit c.in_err-digit.ensures.answer) })

pub returns-then-not-is_from_to-clause-reads : goal.returns-then-not-is_from_to-clause-reads
unfolding version_at
returns-then-not-is_from_to-clause-reads g c =
    rw c.at.ensures (record {
      answer = stops_as version_of (refuses _ is_digit c.in_ok-digit.ensures.answer (sym c.is_from_to.ensures ∙ c.if-not-is_from_to.true));
    })

pub returns-clause-reads : goal.returns-clause-reads
unfolding version_at
returns-clause-reads g c =
    record { answer = read_as version_of (passes _ is_digit c.in_ok-digit.ensures.answer (sym c.is_from_to.ensures ∙ c.if-not-is_from_to.false)) }
