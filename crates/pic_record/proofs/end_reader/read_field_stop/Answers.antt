use Rattle.std.proofs.Common.{arith, rules}
use Rattle.std.proofs.lemmas.Int.{to_z-of_z}
use mir.Syntax.{w128}
use mir.Val.{SFits}
use Rattle.pic_fields.proofs.ReadLaws.{read_then, read_done, read_up_to, goes_on, exits}
use Rattle.pic_record.specs.EndFields.{field_stop_at}
use Rattle.pic_record.proofs.end_reader.read_field_stop.Goals as goal

pub returns-in_err-phase : goal.returns-in_err-phase
unfolding field_stop_at
returns-in_err-phase g c = exits _ (omega arith) c.from_residual.ensures.1 c.in_err-phase.ensures

pub returns-in_err-bound : goal.returns-in_err-bound
unfolding field_stop_at
returns-in_err-bound g c = goes_on _ c.in_ok-phase.ensures.answer (exits _ (omega arith) c.from_residual-in_err-bound.ensures.1 c.in_err-bound.ensures)

pub returns-in_err-axis : goal.returns-in_err-axis
unfolding field_stop_at
returns-in_err-axis g c =
    goes_on _ c.in_ok-phase.ensures.answer (goes_on _ c.in_ok-bound.ensures.answer (exits _ (omega arith) c.from_residual-in_err-axis.ensures.1
    c.in_err-axis.ensures))

pub returns-in_err-cell : goal.returns-in_err-cell
unfolding field_stop_at
returns-in_err-cell g c =
    let cell = rw c.cells.ensures.value at c.in_err-cell.ensures in
    goes_on _ c.in_ok-phase.ensures.answer (goes_on _ c.in_ok-bound.ensures.answer (goes_on _ c.in_ok-axis.ensures.answer
    (exits _ (omega arith) c.from_residual-in_err-cell.ensures.1 cell)))

pub returns-in_err-value : goal.returns-in_err-value
unfolding field_stop_at
returns-in_err-value g c =
    let cell = rw c.cells.ensures.value at c.in_ok-cell.ensures in
    let value = rw c.bound_limit.ensures at c.in_err-value.ensures in
    goes_on _ c.in_ok-phase.ensures.answer (goes_on _ c.in_ok-bound.ensures.answer (goes_on _ c.in_ok-axis.ensures.answer
    (goes_on _ cell.answer (exits _ (omega arith) c.from_residual-in_err-value.ensures.1 value))))

pub returns : goal.returns
unfolding field_stop_at
returns g c =
    let cell = rw c.cells.ensures.value at c.in_ok-cell.ensures in
    let value = rw c.bound_limit.ensures at c.in_ok-value.ensures in
    let fits : SFits w128 c.in_ok-value.value = search rules in
    rw (to_z-of_z w128 c.in_ok-value.value fits)
    (record {
      answer = read_up_to (omega arith) (read_then _ c.in_ok-phase.ensures.answer (read_then _ c.in_ok-bound.ensures.answer
          (read_then _ c.in_ok-axis.ensures.answer
          (read_then _ cell.answer (read_then _ value.answer (read_done _ _ _))))));
    })
