use Rattle.std.proofs.Common.{arith}
use Rattle.pic_fields.proofs.ReadLaws.{goes_on, exits}
use Rattle.pic_header.specs.HeaderFields.{mark_at}
use Rattle.pic_header.proofs.head_reader.read_mark.Goals as goal

pub returns-in_err-read_exactly-clause-reads : goal.returns-in_err-read_exactly-clause-reads
unfolding mark_at
returns-in_err-read_exactly-clause-reads g c = exits _ (omega arith) c.from_residual.ensures.1 c.in_err-read_exactly.ensures

pub returns-clause-reads : goal.returns-clause-reads
unfolding mark_at
returns-clause-reads g c = goes_on _ c.in_ok-read_exactly.ensures.answer c.read_version.ensures.reads
