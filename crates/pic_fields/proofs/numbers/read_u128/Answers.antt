-- A number of its own field.
use Rattle.std.proofs.Common.{sym}
use Rattle.pic_fields.specs.Number.{u128_at, u128_of}
use Rattle.pic_fields.proofs.ReadLaws.{read_as, read_same, exits_as}
use Rattle.pic_fields.proofs.numbers.read_u128.Goals as goal

pub returns-in_err-take_field : goal.returns-in_err-take_field
unfolding u128_at
returns-in_err-take_field g c = exits_as _ c.from_residual.ensures.1 c.in_err-take_field.ensures.reads

pub returns : goal.returns
unfolding u128_at u128_of
returns g c = record { answer = read_same (sym c.from_be_bytes.ensures) (read_as u128_of c.in_ok-take_field.ensures.reads.answer) }
