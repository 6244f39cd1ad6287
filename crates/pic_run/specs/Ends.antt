-- How a call ends: what it took from its source, what it put on its sinks, and its answer.
use Rattle.std.specs.Prelude.{◌≡◌, ◌⊎◌, IfSome}
use Rattle.pic_io.specs.Told.{Quiet}
use Rattle.pic_io.specs.Sinks.{QuietSinks}
use Rattle.pic_report.specs.declared.ended.Ended.{Ended}
use Rattle.pic_report.specs.declared.ended.Ended.TheVariants.{NoMemory}
use Rattle.pic_line.specs.CommandLine.{command_of}
use Rattle.pic_report.specs.Reading.{Held}
use Rattle.pic_report.specs.Leaves.{Fulfils}
use Rattle.pic_report.specs.Manner.{Call, Manner, Performs}
use Rattle.pic_run.specs.Commands.{manner_of, outcome}
use Rattle.pic_report.specs.Meaning.{ReadsIn, MeansIn}

-- the command of a call's words, as what it does
abbrev pub manner_in : Call → Manner
manner_in c = manner_of (command_of c.words)

-- the call ends so
abbrev pub Ends : Call → Ended → Type 0
Ends c ended = Performs (manner_in c) c.source c.source_now c.sinks c.sinks_now ended

abbrev pub Reads : Call → Type 0
Reads c = ReadsIn (manner_in c) c

-- where the source tells its bytes and no fault can be blamed on a count, the call answers the
-- outcome and puts its texts, or memory was wanting
abbrev pub IsComplete : Call → Ended → Type 0
IsComplete c ended =
    Quiet c.source c.source_now → QuietSinks c.sinks c.sinks_now
    → IfSome c.source.bytes
    (λ held. (ended ≡ NoMemory) ⊎ Fulfils (outcome c.words (Held held)) c.sinks c.sinks_now ended)

abbrev pub Means : Call → Ended → Type 0
Means c answer = MeansIn (manner_in c) c answer
