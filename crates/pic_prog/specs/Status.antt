-- The exit status of a call.
use Rattle.std.specs.Prelude.{◌≡◌, ℕ}
use Rattle.pic_report.specs.declared.ended.Ended.{Ended}
use Rattle.pic_report.specs.Ended.{status_of}
use Rattle.pic_run.specs.Ends.{Ends}
use Rattle.pic_report.specs.Manner.{Call}

-- there is an answer with which the call ends, and the status is its own
pub record EndsWith (c : Call) (status : ℕ) : Type 0 where
  pub answer : Ended
  pub ends : Ends c answer
  pub is : status ≡ status_of answer
