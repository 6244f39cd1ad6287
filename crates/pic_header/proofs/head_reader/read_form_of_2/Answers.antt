use Rattle.std.proofs.Common.{arith}
use Rattle.pic_num.proofs.VersionLaws.{side_of_bits}
use Rattle.pic_fields.proofs.ReadLaws.{read_then, read_done, read_up_to, goes_on, exits}
use Rattle.pic_header.specs.HeaderFields.{form_of_2}
use Rattle.pic_header.proofs.head_reader.read_form_of_2.Goals as goal

pub returns-in_err-bits-clause-reads : goal.returns-in_err-bits-clause-reads
unfolding form_of_2
returns-in_err-bits-clause-reads g c = exits _ (omega arith) c.from_residual.ensures.1 c.in_err-bits.ensures.reads

pub returns-in_err-filter-clause-reads : goal.returns-in_err-filter-clause-reads
unfolding form_of_2
returns-in_err-filter-clause-reads g c =
    goes_on _ c.in_ok-bits.ensures.reads.answer (exits _ (omega arith) c.from_residual-in_err-filter.ensures.1 c.in_err-filter.ensures.reads)

pub returns-in_err-loops-clause-reads : goal.returns-in_err-loops-clause-reads
unfolding form_of_2
returns-in_err-loops-clause-reads g c =
    goes_on _ c.in_ok-bits.ensures.reads.answer (goes_on _ c.in_ok-filter.ensures.reads.answer (exits _ (omega arith) c.from_residual-in_err-loops.ensures.1
    c.in_err-loops.ensures.reads))

pub returns-clause-reads : goal.returns-clause-reads
unfolding form_of_2
returns-clause-reads g c =
    rw c.of_bits-side.ensures (record {
      answer = read_up_to (omega arith) (read_then _ c.in_ok-bits.ensures.reads.answer (read_then _ c.in_ok-filter.ensures.reads.answer
          (read_then _ c.in_ok-loops.ensures.reads.answer (read_done _ _ _))));
    })

pub returns-clause-side : goal.returns-clause-side
returns-clause-side g c = rw c.of_bits-side.ensures (side_of_bits 2 _ c.in_ok-bits.ensures.low c.in_ok-bits.ensures.high)

pub returns-clause-filter : goal.returns-clause-filter
returns-clause-filter g c = c.in_ok-filter.ensures.high

pub returns-clause-loops : goal.returns-clause-loops
returns-clause-loops g c = c.in_ok-loops.ensures.high
