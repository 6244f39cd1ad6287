use Rattle.std.proofs.Common.{◌++◌, ap, sym, ◌∙◌}
use Rattle.std.proofs.lemmas.Result.{err_from_is_err_and}
use Rattle.pic_fields.proofs.ReadLaws.{passes, refuses, read_as, read_same, stops_as, stops_checked}
use Rattle.pic_header.specs.HeaderFields.{name_of, is_new_name_field, name_at}
use Rattle.pic_header.proofs.name_reader.read_name.Goals as goal

pub returns-in_err-take_field-clause-reads : goal.returns-in_err-take_field-clause-reads
unfolding name_at
returns-in_err-take_field-clause-reads g c =
    let q = err_from_is_err_and c.from_residual.result c.from_residual.ensures.1 in
    rw (q.1, q.2) (record { answer = stops_as name_of (stops_checked _ (is_new_name_field c.args.earlier.now) c.in_err-take_field.ensures.reads.answer) })

pub returns-then-not-is_new_name_field-clause-reads : goal.returns-then-not-is_new_name_field-clause-reads
unfolding name_at
returns-then-not-is_new_name_field-clause-reads g c =
    rw c.at.ensures (record {
      answer = stops_as name_of (refuses _ (is_new_name_field c.args.earlier.now) c.in_ok-take_field.ensures.reads.answer
          (sym c.is_new_name_field.ensures ∙ c.if-not-is_new_name_field.true));
    })

pub returns-clause-reads : goal.returns-clause-reads
unfolding name_at
returns-clause-reads g c =
    record {
      answer = read_same (sym (c.push.ensures.bytes ∙ ap (λ l. l ++ c.name_of.result.now) c.new-name.ensures ∙ c.name_of.ensures.name))
          (read_as name_of (passes _ (is_new_name_field c.args.earlier.now) c.in_ok-take_field.ensures.reads.answer (sym c.is_new_name_field.ensures
          ∙ c.if-not-is_new_name_field.false)));
    }
