-- What the answers mean that are the same for each command.
use Rattle.std.specs.Prelude.{◌≡◌, None}
use Rattle.pic_io.specs.Told.{Rose, Calm}
use Rattle.pic_io.specs.Sinks.{FailedAt}
use Rattle.pic_report.specs.declared.ended.Ended.{Ended}
use Rattle.pic_report.specs.declared.ended.Ended.TheVariants.{Usage, ReadFault, WriteFault, NoMemory}
use Rattle.pic_line.specs.CommandLine.{command_of}
use Rattle.pic_report.specs.Reading.{Reading}
use Rattle.pic_report.specs.Manner.{Call, Manner}

-- what a call took of its source, at most so much as its command does, and what it was given
abbrev pub ReadsIn : Manner → Call → Type 0
ReadsIn m c = Reading (m.takes c.source c.source_now) c.source c.source_now

-- a read failed, and no put
pub record CannotRead (c : Call) : Type 0 where
  pub rose : Rose c.source c.source_now
  pub calm_out : Calm c.sinks.out c.sinks_now.out
  pub calm_report : Calm c.sinks.report c.sinks_now.report

-- want of memory leaves what the command says; no read failed
pub record WantsMemory (m : Manner) (c : Call) : Type 0 where
  pub calm : Calm c.source c.source_now
  pub read : ReadsIn m c
  pub left : m.leaves (m.outcome read.given) c.sinks c.sinks_now

-- what an answer means: these are the same for each command, and all others are the command's own
abbrev pub MeansIn : Manner → Call → Ended → Type 0
MeansIn m c Usage = command_of c.words ≡ None
MeansIn m c ReadFault = CannotRead c
MeansIn m c (WriteFault side) = FailedAt side c.sinks c.sinks_now
MeansIn m c NoMemory = WantsMemory m c
MeansIn m c answer = m.means c answer
