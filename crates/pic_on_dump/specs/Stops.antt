-- What stops a command on a dump.
use Rattle.std.specs.Prelude.{Result, Ok, Err}
use Rattle.pic_report.specs.declared.cut.Cut.{Cut}
use Rattle.pic_report.specs.declared.cut.Cut.TheVariants as cut
use Rattle.pic_report.specs.declared.early.Early.{Early}
use Rattle.pic_report.specs.declared.early.Early.TheVariants as early
use Rattle.pic_resume.specs.declared.carry_stop.CarryStop.{CarryStop}
use Rattle.pic_resume.specs.declared.carry_stop.CarryStop.TheVariants as carry_stop
use Rattle.pic_verify.specs.declared.verify_stop.VerifyStop.{VerifyStop}
use Rattle.pic_verify.specs.declared.verify_stop.VerifyStop.TheVariants as verify_stop
use Rattle.pic_open.specs.declared.stage_stop.StageStop.{StageStop}
use Rattle.pic_open.specs.declared.stage_stop.StageStop.TheVariants as stage_stop

-- what stops the stage that verifies a dump
abbrev pub stop_of_verify : VerifyStop → StageStop
stop_of_verify verify_stop.ReadFault = stage_stop.Answer early.ReadFault
stop_of_verify (verify_stop.BadDump place cause) = stage_stop.Answer (early.BadDump place cause)
stop_of_verify (verify_stop.Broken frame b) = stage_stop.Answer (early.Broken frame b)
stop_of_verify verify_stop.NoMemory = stage_stop.NoMemory

-- why a dump isn't carried on: an early end, or what cuts the call off
abbrev pub early_of_carry : CarryStop → Result Early Cut
early_of_carry carry_stop.ReadFault = Ok early.ReadFault
early_of_carry (carry_stop.BadDump place cause) = Ok (early.BadDump place cause)
early_of_carry (carry_stop.Refused refusal) = Ok (early.Refused refusal)
early_of_carry (carry_stop.Broken frame b) = Ok (early.Broken frame b)
early_of_carry (carry_stop.WriteFault side) = Err (cut.Write side)
early_of_carry carry_stop.NoMemory = Err cut.NoMemory
