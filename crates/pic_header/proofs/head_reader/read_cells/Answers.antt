use Rattle.std.proofs.Common.{arith}
use Rattle.pic_fields.proofs.ReadLaws.{read_then, read_done, read_up_to, goes_on, exits}
use Rattle.pic_header.specs.HeaderFields.{cells_at}
use Rattle.pic_header.proofs.head_reader.read_cells.Goals as goal

pub returns-in_err-x-clause-reads : goal.returns-in_err-x-clause-reads
unfolding cells_at
returns-in_err-x-clause-reads g c = exits _ (omega arith) c.from_residual.ensures.1 c.in_err-x.ensures.reads

pub returns-in_err-y-clause-reads : goal.returns-in_err-y-clause-reads
unfolding cells_at
returns-in_err-y-clause-reads g c = goes_on _ c.in_ok-x.ensures.reads.answer (exits _ (omega arith) c.from_residual-in_err-y.ensures.1 c.in_err-y.ensures.reads)

pub returns-in_err-z-clause-reads : goal.returns-in_err-z-clause-reads
unfolding cells_at
returns-in_err-z-clause-reads g c =
    goes_on _ c.in_ok-x.ensures.reads.answer (goes_on _ c.in_ok-y.ensures.reads.answer (exits _ (omega arith) c.from_residual-in_err-z.ensures.1
    c.in_err-z.ensures.reads))

pub returns-clause-reads : goal.returns-clause-reads
unfolding cells_at
returns-clause-reads g c =
    record {
      answer = read_up_to (omega arith) (read_then _ c.in_ok-x.ensures.reads.answer (read_then _ c.in_ok-y.ensures.reads.answer
          (read_then _ c.in_ok-z.ensures.reads.answer (read_done _ _ _))));
    }
