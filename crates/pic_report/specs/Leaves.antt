-- What a call leaves on its sinks: the outcome's texts, or what stands there of them where it was cut off.
use Rattle.std.specs.Prelude.{◌≡◌, ℕ, ◌<◌, ◌≤◌, ◌⊎◌, List, [], ◌++◌, length, take}
use Rattle.pic_io.specs.Sinks.{Sinks, Wrote, Piece, outs, lines, CutAt}
use Rattle.pic_io.specs.declared.side.Side.{Side}
use Rattle.pic_report.specs.declared.ended.Ended.{Ended}
use Rattle.pic_report.specs.declared.ended.Ended.TheVariants.{Done, WriteFault, NoMemory}
use Rattle.pic_report.specs.Outcome.{Outcome, out_text, report_text, pieces_of}

-- the outcome's answer, and both its texts whole
pub record Fulfils (o : Outcome) (before now : Sinks) (answer : Ended) : Type 0 where
  pub answers : o.answer ≡ answer
  pub wrote : Wrote before now (out_text o) (report_text o)

-- the head and so many of the frames stand, whole, with their lines
pub record HasFront (head : List ℕ) (frames : List Piece) (before now : Sinks) : Type 0 where
  pub number : ℕ
  pub most : number ≤ length frames
  pub wrote : Wrote before now (head ++ outs (take number frames)) (lines (take number frames))

-- so many workers left a head and frames, at least so many: one alone wants no memory, and a run that
-- comes to its last step wants none behind it
pub record HasFrames (least workers : ℕ) (answer : Ended) (head : List ℕ) (frames : List Piece)
    (before now : Sinks) : Type 0 where
  pub front : HasFront head frames before now
  pub many : 2 ≤ workers
  pub enough : least ≤ front.number
  pub left : (steps : ℕ) → answer ≡ Done steps → front.number < length frames

-- what a command leaves of an outcome where memory was wanting
abbrev pub Leaving : Type 1
Leaving = Outcome → Sinks → Sinks → Type 0

-- nothing on both sinks
abbrev pub LeavesNothing : Leaving
LeavesNothing o before now = Wrote before now [] []

-- nothing, or the first frame and some more: memory is wanted before the head, or by a step of so many
-- workers
abbrev pub LeavesWhole : ℕ → Leaving
LeavesWhole workers o before now =
    Wrote before now [] [] ⊎ HasFrames 1 workers o.answer o.head o.frames before now

-- nothing, or the head and whole frames
abbrev pub LeavesKept : Leaving
LeavesKept o before now = Wrote before now [] [] ⊎ HasFront o.head o.frames before now

-- a put failed: the pieces stand up to it, and nothing of what follows
pub record IsCutOff (o : Outcome) (before now : Sinks) (answer : Ended) : Type 0 where
  pub side : Side
  pub failed : answer ≡ WriteFault side
  pub cut : CutAt side before now (pieces_of o)

-- memory was wanting
pub record IsStarved (leaves : Leaving) (o : Outcome) (before now : Sinks)
    (answer : Ended) : Type 0 where
  pub wanted : answer ≡ NoMemory
  pub left : leaves o before now

-- a call comes to the outcome's answer, with its texts, or it is cut off
abbrev pub ComesTo : Leaving → Outcome → Sinks → Sinks → Ended → Type 0
ComesTo leaves o before now answer =
    Fulfils o before now answer
    ⊎ (IsCutOff o before now answer ⊎ IsStarved leaves o before now answer)
