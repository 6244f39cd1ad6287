use Rattle.std.specs.Prelude.{ℕ, ◌<◌, List, [], ◌∷◌, length, ◌⊎◌, Result, Ok, Err}
use Rattle.std.specs.List.{flat_map}
use Rattle.pic_io.specs.Told.{Told, Rose, Calm, Quiet}
use Rattle.pic_io.specs.Sink.{Appended, AppendedFront}
use Rattle.pic_io.specs.declared.side.Side.{Side}
use Rattle.pic_io.specs.declared.side.Side.TheVariants.{Out, Report}

-- what is known of the two sinks that a command writes to
pub record Sinks : Type 0 where
  pub out : Told
  pub report : Told

-- the two sinks as one value
abbrev pub sinks : Told → Told → Sinks
sinks first second = record { out = first; report = second }

-- both texts were appended, and neither count rose
pub record Wrote (before now : Sinks) (text line : List ℕ) : Type 0 where
  pub out : Appended before.out now.out text
  pub report : Appended before.report now.report line
  pub calm_out : Calm before.out now.out
  pub calm_report : Calm before.report now.report

-- a put failed on this side, and the other side's count stayed
abbrev pub FailedAt : Side → Sinks → Sinks → Type 0
FailedAt Out before now = Rose before.out now.out × Calm before.report now.report
FailedAt Report before now = Rose before.report now.report × Calm before.out now.out

-- a text for out, and the line for report that follows it
pub record Piece : Type 0 where
  pub out : List ℕ
  pub line : List ℕ

-- what some pieces put on out
abbrev pub outs : List Piece → List ℕ
outs pieces = flat_map (λ piece. piece.out) pieces

-- their lines
abbrev pub lines : List Piece → List ℕ
lines pieces = flat_map (λ piece. piece.line) pieces

-- how far a piece came whose put failed: a front of its text, and no line, or its whole text, and a
-- front of its line
abbrev pub Front : Side → Sinks → Sinks → Piece → Type 0
Front Out before now p = AppendedFront before.out now.out p.out × Appended before.report now.report []
Front Report before now p = Appended before.out now.out p.out × AppendedFront before.report now.report p.line

-- what of a piece goes to a side
abbrev pub part_of : Side → Piece → List ℕ
part_of Out p = p.out
part_of Report p = p.line

-- a put of this piece failed on this side, for which it has a byte at least
pub record IsCut (side : Side) (before now : Sinks) (p : Piece) : Type 0 where
  pub some : 0 < length (part_of side p)
  pub failed : FailedAt side before now
  pub front : Front side before now p

-- pieces were put one after another until a put failed on this side, and nothing after it: the first
-- piece is cut, or it is whole and the others are cut
abbrev pub CutAt : Side → Sinks → Sinks → List Piece → Type 0
CutAt side before now [] = ⊥
CutAt side before now (p ∷ ps) = IsCut side before now p ⊎ ((mid : Sinks) × Wrote before mid p.out p.line × CutAt side mid now ps)

-- what a call that puts pieces does: at Ok all are whole, and Err names the side that failed
abbrev pub Writes : {T : Type 0} → Sinks → Sinks → List Piece → Result T Side → Type 0
Writes before now pieces (Ok _) = Wrote before now (outs pieces) (lines pieces)
Writes before now pieces (Err side) = CutAt side before now pieces

-- a put of a line failed, which has a byte at least, on the report alone
abbrev pub LineCut : Side → Told → Told → List ℕ → Type 0
LineCut Out before now line = ⊥
LineCut Report before now line = (0 < length line) × AppendedFront before now line × Rose before now

-- what a call that puts a line on the report does
abbrev pub WritesLine : {T : Type 0} → Told → Told → List ℕ → Result T Side → Type 0
WritesLine before now line (Ok _) = Appended before now line × Calm before now
WritesLine before now line (Err side) = LineCut side before now line

-- no fault can be blamed on either sink
pub record QuietSinks (before now : Sinks) : Type 0 where
  pub out : Quiet before.out now.out
  pub report : Quiet before.report now.report
