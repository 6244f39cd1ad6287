-- What stops the stages of a deck, and how a call ends then.
use Rattle.std.specs.Prelude.{◌≡◌, [], Result, Err}
use Rattle.pic_io.specs.Sinks.{Sinks, Wrote}
use Rattle.pic_report.specs.declared.cut.Cut.{Cut}
use Rattle.pic_report.specs.declared.cut.Cut.TheVariants as cut
use Rattle.pic_open.specs.declared.stage_stop.StageStop.{StageStop}
use Rattle.pic_open.specs.declared.stage_stop.StageStop.TheVariants as stage_stop
use Rattle.pic_report.specs.declared.ended.Ended.{Ended}
use Rattle.pic_report.specs.Early.{ended_early}
use Rattle.pic_report.specs.Outcome.{early_outcome}
use Rattle.pic_report.specs.Finishes.{Announces}
use Rattle.pic_deck.specs.declared.refusal.DeckFault.{DeckFault}
use Rattle.pic_deck.specs.declared.refusal.DeckFault.TheVariants as deck_fault
use Rattle.pic_displace.specs.declared.fault.DisplaceFault.{DisplaceFault}
use Rattle.pic_displace.specs.declared.fault.DisplaceFault.TheVariants as displace_fault
use Rattle.pic_report.specs.declared.early.Early.TheVariants as early
use Rattle.pic_open.specs.declared.source_reader.SourceStop.{SourceStop}
use Rattle.pic_open.specs.declared.source_reader.SourceStop.TheVariants as source_stop

-- a call whose stage was stopped: an early end comes to its answer
abbrev pub EndsStopped : StageStop → Sinks → Sinks → Result Ended Cut → Type 0
EndsStopped (stage_stop.Answer end) before now finish =
    Announces (early_outcome (ended_early end)) before now finish
EndsStopped stage_stop.NoMemory before now finish =
    (finish ≡ Err cut.NoMemory) × Wrote before now [] []

-- what stops the stage of reading
abbrev pub stop_of_reading : SourceStop → StageStop
stop_of_reading source_stop.Fault = stage_stop.Answer early.ReadFault
stop_of_reading source_stop.NoMemory = stage_stop.NoMemory

-- what stops the stage of the deck
abbrev pub stop_of_deck : DeckFault → StageStop
stop_of_deck (deck_fault.Refused refusal) = stage_stop.Answer (early.Refused refusal)
stop_of_deck deck_fault.NoMemory = stage_stop.NoMemory

-- what stops the stage of the displaced start
abbrev pub stop_of_displace : DisplaceFault → StageStop
stop_of_displace (displace_fault.Refused refusal) = stage_stop.Answer (early.Refused refusal)
stop_of_displace displace_fault.NoMemory = stage_stop.NoMemory
