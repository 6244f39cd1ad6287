use Rattle.std.proofs.Common.{sym, arith}
use Rattle.pic_fields.proofs.ReadLaws.{read_then, read_done, read_up_to, goes_on, exits}
use Rattle.pic_header.specs.HeaderFields.{loop_cell_at}
use Rattle.pic_header.proofs.loop_reader.read_cell.Goals as goal

pub returns-in_err-x-clause-reads : goal.returns-in_err-x-clause-reads
unfolding loop_cell_at
returns-in_err-x-clause-reads g c = rw (sym c.numbers.ensures.value) (exits _ (omega arith) c.from_residual.ensures.1 c.in_err-x.ensures.reads)

pub returns-in_err-y-clause-reads : goal.returns-in_err-y-clause-reads
unfolding loop_cell_at
returns-in_err-y-clause-reads g c =
    rw (sym c.numbers.ensures.value) (goes_on _ c.in_ok-x.ensures.reads.answer (exits _ (omega arith) c.from_residual-in_err-y.ensures.1
    c.in_err-y.ensures.reads))

pub returns-in_err-z-clause-reads : goal.returns-in_err-z-clause-reads
unfolding loop_cell_at
returns-in_err-z-clause-reads g c =
    rw (sym c.numbers.ensures.value) (goes_on _ c.in_ok-x.ensures.reads.answer (goes_on _ c.in_ok-y.ensures.reads.answer
    (exits _ (omega arith) c.from_residual-in_err-z.ensures.1 c.in_err-z.ensures.reads)))

pub returns-clause-reads : goal.returns-clause-reads
unfolding loop_cell_at
returns-clause-reads g c =
    rw (sym c.numbers.ensures.value) (record {
      answer = read_up_to (omega arith) (read_then _ c.in_ok-x.ensures.reads.answer
          (read_then _ c.in_ok-y.ensures.reads.answer (read_then _ c.in_ok-z.ensures.reads.answer (read_done _ _ _))));
    })
