-- The command `upgrade`: a dump put again in the spelling of version 2, on out.
use Rattle.std.specs.Prelude.{◌≡◌, ℕ, List, [], take, IfSome, Ok, Err}
use Rattle.pic_io.specs.Told.{Told}
use Rattle.pic_io.specs.Source.{IsAtEnd}
use Rattle.pic_io.specs.Sinks.{Piece}
use Rattle.pic_io.specs.declared.side.Side.TheVariants.{Out}
use Rattle.pic_dump.specs.declared.upgrade_stop.UpgradeStop.TheVariants as stop
use Rattle.pic_dump.specs.Upgrade.{Answer, upgrade_of}
use Rattle.pic_dump.specs.Allowed.{TakesHeader}
use Rattle.pic_report.specs.declared.ended.Ended.{Ended}
use Rattle.pic_report.specs.declared.ended.Ended.TheVariants.{Upgraded, BadDump, ReadFault, WriteFault, NoMemory}
use Rattle.pic_report.specs.Lines.{upgraded_line, early_line}
use Rattle.pic_report.specs.Reading.{Given, Held, Failed, FailedBehind}
use Rattle.pic_on_dump.specs.DumpReading.{TakesOfDump, HasParts}
use Rattle.pic_report.specs.Outcome.{Outcome, told_outcome}
use Rattle.pic_report.specs.Leaves.{LeavesNothing}
use Rattle.pic_report.specs.Manner.{Call, Manner}

-- the line of an answer
abbrev pub upgrade_line : Ended → List ℕ
upgrade_line (Upgraded frames) = upgraded_line frames
upgrade_line answer = early_line answer

-- the parts of a dump, on out, and behind them the line of the answer, on report
abbrev pub upgrade_outcome : List Piece → Ended → Outcome
upgrade_outcome parts answer = told_outcome [] parts (upgrade_line answer) answer

abbrev pub ended_upgrade : Answer → Ended
ended_upgrade (Ok frames) = Upgraded frames
ended_upgrade (Err (stop.BadDump place cause)) = BadDump place cause
ended_upgrade (Err stop.ReadFault) = ReadFault
ended_upgrade (Err stop.WriteFault) = WriteFault Out
ended_upgrade (Err stop.NoMemory) = NoMemory

-- all parts of the dump that the source held, or those that are whole before its first fault; after a
-- read that failed the parts that were whole before it
abbrev pub upgrade_on : Given → Outcome
upgrade_on (Held held) = upgrade_outcome (upgrade_of held).pieces (ended_upgrade (upgrade_of held).answer)
upgrade_on (Failed front) = upgrade_outcome [] ReadFault
upgrade_on (FailedBehind held whole) = upgrade_outcome (take whole (upgrade_of held).pieces) ReadFault

-- how a dump was read: where memory was wanting, no byte behind its header was taken; one that was put
-- whole, to its end; and where a read failed, so many parts of it were whole
pub record ReadsUpgraded (source source' : Told) (given : Given) (ended : Ended) : Type 0 where
  pub memory : ended ≡ NoMemory → TakesHeader source source'
  pub end : (frames : ℕ) → ended ≡ Upgraded frames → IsAtEnd source'
  pub part : HasParts source source' given

-- the source held a whole dump of so many frames, and nothing behind it
pub record IsUpgraded (c : Call) (frames : ℕ) : Type 0 where
  pub good : IfSome c.source.bytes (λ held. (upgrade_of held).answer ≡ Ok frames)
  pub end : IsAtEnd c.source_now

-- this is the first fault of what the source held
abbrev pub HasFault : Call → ℕ → ℕ → Type 0
HasFault c place cause =
    IfSome c.source.bytes (λ held. (upgrade_of held).answer ≡ Err (stop.BadDump place cause))

abbrev pub UpgradeMeans : Call → Ended → Type 0
UpgradeMeans c (Upgraded frames) = IsUpgraded c frames
UpgradeMeans c (BadDump place cause) = HasFault c place cause
UpgradeMeans c answer = ⊥

abbrev pub upgrading : Manner
upgrading = record {
  outcome = upgrade_on;
  leaves = LeavesNothing;
  takes = TakesOfDump;
  reads = ReadsUpgraded;
  means = UpgradeMeans;
}
