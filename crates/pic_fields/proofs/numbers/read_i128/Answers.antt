-- A number of its own field.
use Rattle.std.proofs.Common.{sym, ◌∙◌}
use Rattle.std.proofs.lemmas.Int.{to_z-of_z}
use mir.Syntax.{w128}
use Rattle.pic_fields.specs.Number.{i128_at, i128_of}
use Rattle.pic_fields.proofs.ReadLaws.{read_as, read_same, exits_as}
use Rattle.pic_fields.proofs.numbers.read_i128.Goals as goal

pub returns-in_err-take_field : goal.returns-in_err-take_field
unfolding i128_at
returns-in_err-take_field g c = exits_as _ c.from_residual.ensures.1 c.in_err-take_field.ensures.reads

pub returns : goal.returns
unfolding i128_at i128_of
returns g c = record {
  answer = read_same (sym (to_z-of_z w128 c.from_be_bytes.result (record { sfits = c.from_be_bytes.type_inv }) ∙ c.from_be_bytes.ensures))
      (read_as i128_of c.in_ok-take_field.ensures.reads.answer);
}
