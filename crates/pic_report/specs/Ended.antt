-- The end of a call, and its exit status.
use Rattle.std.specs.Prelude.{ℕ, Result, Ok, Err}
use Rattle.pic_report.specs.declared.cut.Cut.{Cut}
use Rattle.pic_report.specs.declared.cut.Cut.TheVariants as cut
use Rattle.pic_report.specs.declared.ended.Ended.{Ended}
use Rattle.pic_report.specs.declared.ended.Ended.TheVariants.{Done, Checked, Verified, Upgraded, Stopped, Usage, Refused, Gauss}
use Rattle.pic_report.specs.declared.ended.Ended.TheVariants.{ReadFault, WriteFault, NoMemory, BadDump, Broken}

-- the exit status of each answer
abbrev pub status_of : Ended → ℕ
status_of (Done steps) = 0
status_of (Checked particles) = 0
status_of (Verified frames) = 0
status_of (Upgraded frames) = 0
status_of (Stopped step stop) = 1
status_of Usage = 2
status_of (Refused refusal) = 3
status_of (Gauss b) = 3
status_of ReadFault = 4
status_of (WriteFault side) = 5
status_of NoMemory = 6
status_of (BadDump place cause) = 7
status_of (Broken frame b) = 8

-- how a call ends that came to an answer, or was cut off
abbrev pub ended_of : Result Ended Cut → Ended
ended_of (Ok answer) = answer
ended_of (Err (cut.Write side)) = WriteFault side
ended_of (Err cut.NoMemory) = NoMemory
