use Rattle.std.proofs.Common.{arith}
use Rattle.pic_fields.proofs.FieldLaws.{read_field, fails_field, filled_moves, exits_filling}
use Rattle.pic_fields.proofs.taking.take_field.Goals as goal

pub returns-then-count-room-clause-reads : goal.returns-then-count-room-clause-reads
returns-then-count-room-clause-reads g c =
    rw c.at.ensures (record {
      answer = record {
        why = fails_field _ _ c.fill.new.room _ _ c.in_ok-count.count c.fill.ensures.length c.in_ok-count.ensures.fills
            (omega (arith, c.if-count-room.true, c.fill.ensures.length));
        moves = filled_moves _ _ c.fill.new.room _ _ c.in_ok-count.count c.fill.ensures.length c.in_ok-count.ensures.fills;
        less = λ same. cc;
      };
    })

pub returns-clause-reads : goal.returns-clause-reads
returns-clause-reads g c = record {
  answer = read_field _ _ c.fill.new.room _ _ c.in_ok-count.count c.fill.ensures.length c.in_ok-count.ensures.fills
      (omega (arith, c.if-count-room.false, c.fill.ensures.length));
}

pub returns-in_err-count-clause-reads : goal.returns-in_err-count-clause-reads
returns-in_err-count-clause-reads g c =
    exits_filling c.fill.new.room c.in_err-count.field-0.0 (omega (arith, c.fill.ensures.length)) c.from_residual.ensures.1 c.in_err-count.ensures.fills
