-- The outcome of the command `verify`, from the verdict on what its source gave.
use Rattle.std.specs.Prelude.{[], Ok, Err}
use Rattle.pic_verify.specs.declared.verify_stop.VerifyStop.TheVariants as verify_stop
use Rattle.pic_verify.specs.Verified.{Verdict, verified}
use Rattle.pic_report.specs.declared.ended.Ended.TheVariants.{Verified, NoMemory, ReadFault, BadDump, Broken}
use Rattle.pic_report.specs.Lines.{verified_line}
use Rattle.pic_report.specs.Reading.{Given, Held, Failed, FailedBehind}
use Rattle.pic_report.specs.Outcome.{Outcome, early_outcome}

-- the verdict on the dump that the source held
abbrev pub verdict_on : Given → Verdict
verdict_on (Held held) = verified held
verdict_on (Failed front) = Err verify_stop.ReadFault
verdict_on (FailedBehind held whole) = Err verify_stop.ReadFault

-- a dump whose frames are good: their number, on out; or what was found, on report
abbrev pub verdict_outcome : Verdict → Outcome
verdict_outcome (Ok frames) = record {
  answer = Verified frames;
  head = [];
  frames = [];
  last = record { out = verified_line frames; line = [] };
}
verdict_outcome (Err verify_stop.ReadFault) = early_outcome ReadFault
verdict_outcome (Err (verify_stop.BadDump place cause)) = early_outcome (BadDump place cause)
verdict_outcome (Err (verify_stop.Broken frame b)) = early_outcome (Broken frame b)
verdict_outcome (Err verify_stop.NoMemory) = early_outcome NoMemory
