use Rattle.std.proofs.Common.{arith}
use Rattle.pic_fields.proofs.FieldLaws.{ends_here, more_here, filled_moves, exits_filling_end}
use Rattle.pic_fields.proofs.taking.read_end.Goals as goal

pub returns-then-branch-eq0 : goal.returns-then-branch-eq0
returns-then-branch-eq0 g c = record {
  reads = record {
    answer = ends_here _ _ c.fill.new.room _ c.in_ok-fill.field-0 c.fill.ensures.length
        c.in_ok-fill.ensures.fills (omega (arith, c.if-branch-eq0.true));
  };
}

pub returns : goal.returns
returns g c = rw c.at.ensures (record {
  reads = record {
    answer = record {
      why = more_here _ _ c.fill.new.room _ c.in_ok-fill.field-0 c.fill.ensures.length c.in_ok-fill.ensures.fills c.if-branch-eq0.false;
      moves = filled_moves _ _ c.fill.new.room 1 _ c.in_ok-fill.field-0 c.fill.ensures.length c.in_ok-fill.ensures.fills;
      less = λ same. cc;
    };
  };
})

pub returns-in_err-fill : goal.returns-in_err-fill
returns-in_err-fill g c = record {
  reads = exits_filling_end c.fill.new.room c.in_err-fill.field-0.0 (omega (arith, c.fill.ensures.length)) c.from_residual.ensures.1
      c.in_err-fill.ensures.fills;
}
