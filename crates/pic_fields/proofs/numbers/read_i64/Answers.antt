-- A number of its own field.
use Rattle.std.proofs.Common.{sym, ◌∙◌}
use Rattle.std.proofs.lemmas.Int.{to_z-of_z}
use mir.Syntax.{w64}
use Rattle.pic_fields.specs.Number.{i64_at, i64_of}
use Rattle.pic_fields.proofs.ReadLaws.{read_as, read_same, exits_as}
use Rattle.pic_fields.proofs.numbers.read_i64.Goals as goal

pub returns-in_err-take_field : goal.returns-in_err-take_field
unfolding i64_at
returns-in_err-take_field g c = exits_as _ c.from_residual.ensures.1 c.in_err-take_field.ensures.reads

pub returns : goal.returns
unfolding i64_at i64_of
returns g c = record {
  answer = read_same (sym (to_z-of_z w64 c.from_be_bytes.result (record { sfits = c.from_be_bytes.type_inv }) ∙ c.from_be_bytes.ensures))
      (read_as i64_of c.in_ok-take_field.ensures.reads.answer);
}
