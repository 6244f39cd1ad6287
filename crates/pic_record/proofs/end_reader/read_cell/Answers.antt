use Rattle.std.proofs.Common.{sym, arith}
use Rattle.pic_fields.proofs.ReadLaws.{read_then, read_done, read_up_to, goes_on, exits}
use Rattle.pic_record.specs.EndFields.{below_at, stop_cell_at}
use Rattle.pic_record.proofs.end_reader.read_cell.Goals as goal

pub returns-in_err-x : goal.returns-in_err-x
unfolding stop_cell_at below_at
returns-in_err-x g c = rw (sym c.numbers.ensures.value) (exits _ (omega arith) c.from_residual.ensures.1 c.in_err-x.ensures.reads)

pub returns-in_err-y : goal.returns-in_err-y
unfolding stop_cell_at below_at
returns-in_err-y g c =
    rw (sym c.numbers.ensures.value) (goes_on _ c.in_ok-x.ensures.reads.answer (exits _ (omega arith) c.from_residual-in_err-y.ensures.1
    c.in_err-y.ensures.reads))

pub returns-in_err-z : goal.returns-in_err-z
unfolding stop_cell_at below_at
returns-in_err-z g c =
    rw (sym c.numbers.ensures.value) (goes_on _ c.in_ok-x.ensures.reads.answer (goes_on _ c.in_ok-y.ensures.reads.answer
    (exits _ (omega arith) c.from_residual-in_err-z.ensures.1 c.in_err-z.ensures.reads)))

pub returns : goal.returns
unfolding stop_cell_at below_at
returns g c =
    rw (sym c.numbers.ensures.value) (record {
      answer = read_up_to (omega arith) (read_then _ c.in_ok-x.ensures.reads.answer
          (read_then _ c.in_ok-y.ensures.reads.answer (read_then _ c.in_ok-z.ensures.reads.answer (read_done _ _ _))));
    })
