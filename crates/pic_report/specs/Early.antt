-- The answers of early ends.
use Rattle.pic_report.specs.declared.early.Early.{Early}
use Rattle.pic_report.specs.declared.early.Early.TheVariants as early
use Rattle.pic_report.specs.declared.ended.Ended.{Ended}
use Rattle.pic_report.specs.declared.ended.Ended.TheVariants.{Usage, Refused, Gauss, ReadFault, BadDump, Broken}

-- the answer of an early end
abbrev pub ended_early : Early → Ended
ended_early early.Usage = Usage
ended_early early.ReadFault = ReadFault
ended_early (early.Refused refusal) = Refused refusal
ended_early (early.Gauss b) = Gauss b
ended_early (early.BadDump place cause) = BadDump place cause
ended_early (early.Broken frame b) = Broken frame b
