use Rattle.std.proofs.Common.{Err, ap}
use Rattle.pic_fields.proofs.ReadLaws.{moves_up}
use Rattle.pic_header.proofs.HeadReadLaws.{head_starves}
use Rattle.pic_header.proofs.LessLaws.{same_head_stop, was_fed}
use Rattle.pic_dump.proofs.dump_reader.DumpReader.head.Goals as goal

pub returns-in_err-reader-clause-reads : goal.returns-in_err-reader-clause-reads
returns-in_err-reader-clause-reads g c =
    let read = c.in_ok-header.ensures.reads.answer in
    head_starves _ c.from_residual-in_err-reader.ensures.1 read.calm (moves_up c.in_err-reader.ensures.most read.moves)

pub returns-in_err-header-clause-less : goal.returns-in_err-header-clause-less
returns-in_err-header-clause-less g c = λ same. c.in_err-header.ensures.less (ap Err (same_head_stop c.from_residual.ensures.1 same))

pub returns-in_err-reader-clause-less : goal.returns-in_err-reader-clause-less
returns-in_err-reader-clause-less g c = λ same. absurd (was_fed c.from_residual-in_err-reader.ensures.1 same)
