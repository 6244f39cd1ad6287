-- What the parts of a run write.
use Rattle.std.specs.Prelude.{◌≡◌, ℕ, List, [], Result, Ok, Err}
use Rattle.pic_io.specs.Sinks.{Sinks, Wrote, Piece, outs, lines, CutAt}
use Rattle.pic_grid.specs.declared.stop.EndMark.{EndMark}
use Rattle.pic_report.specs.declared.cut.Cut.{Cut}
use Rattle.pic_report.specs.declared.cut.Cut.TheVariants.{Write, NoMemory}
use Rattle.pic_report.specs.declared.ended.Ended.{Ended}
use Rattle.pic_report.specs.Outcome.{Outcome, pieces_of, answer_of}
use Rattle.pic_report.specs.Leaves.{HasFrames, Fulfils}

-- some frames were written, and the run ended so
pub record WroteFrames (frames : List Piece) (last end : EndMark)
    (before now : Sinks) : Type 0 where
  pub ends : end ≡ last
  pub wrote : Wrote before now (outs frames) (lines frames)

-- all frames are written, or those up to a put that failed, or the first so many
abbrev pub WritesFrames : ℕ → List Piece → EndMark → Sinks → Sinks → Result EndMark Cut → Type 0
WritesFrames workers frames last before now (Ok end) = WroteFrames frames last end before now
WritesFrames workers frames last before now (Err (Write side)) = CutAt side before now frames
WritesFrames workers frames last before now (Err NoMemory) =
    HasFrames 0 workers (answer_of last) [] frames before now

-- the same with the end of the run behind them; of the frames stand so many at least
abbrev pub WritesStates : ℕ → ℕ → Outcome → Sinks → Sinks → Result Ended Cut → Type 0
WritesStates least workers o before now (Ok answer) = Fulfils o before now answer
WritesStates least workers o before now (Err (Write side)) = CutAt side before now (pieces_of o)
WritesStates least workers o before now (Err NoMemory) =
    HasFrames least workers o.answer o.head o.frames before now
