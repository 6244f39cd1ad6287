-- How the parts of a call finish: with an answer, or cut off.
use Rattle.std.specs.Prelude.{Result, Ok, Err}
use Rattle.pic_io.specs.Sinks.{Sinks, CutAt}
use Rattle.pic_report.specs.declared.cut.Cut.{Cut}
use Rattle.pic_report.specs.declared.cut.Cut.TheVariants as cut
use Rattle.pic_report.specs.declared.ended.Ended.{Ended}
use Rattle.pic_report.specs.Outcome.{Outcome, pieces_of}
use Rattle.pic_report.specs.Leaves.{Leaving, Fulfils}

-- A part that puts what stands on the sinks comes to the outcome's answer, or it is cut off: after a
-- put that failed the pieces stand up to it; want of memory leaves so much.
abbrev pub Finishes : Leaving → Outcome → Sinks → Sinks → Result Ended Cut → Type 0
Finishes leaves o before now (Ok answer) = Fulfils o before now answer
Finishes leaves o before now (Err (cut.Write side)) = CutAt side before now (pieces_of o)
Finishes leaves o before now (Err cut.NoMemory) = leaves o before now

-- the same of a part that wants no memory any more
abbrev pub Announces : Outcome → Sinks → Sinks → Result Ended Cut → Type 0
Announces o before now (Ok answer) = Fulfils o before now answer
Announces o before now (Err (cut.Write side)) = CutAt side before now (pieces_of o)
Announces o before now (Err cut.NoMemory) = ⊥
