-- A number of its own field.
use Rattle.pic_fields.specs.Number.{byte_at, byte_of}
use Rattle.pic_fields.proofs.ReadLaws.{read_as, exits_as}
use Rattle.pic_fields.proofs.numbers.read_byte.Goals as goal

pub returns-in_err-take_field : goal.returns-in_err-take_field
unfolding byte_at
returns-in_err-take_field g c = exits_as _ c.from_residual.ensures.1 c.in_err-take_field.ensures.reads

pub returns : goal.returns
unfolding byte_at byte_of
returns g c = record { answer = read_as byte_of c.in_ok-take_field.ensures.reads.answer }
