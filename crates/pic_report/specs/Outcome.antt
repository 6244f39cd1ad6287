-- The outcome of a call: the answer, the text on out and the text on report. Every answer but a write fault
-- and want of memory is the outcome's.
use Rattle.std.specs.Prelude.{ℕ, List, [], ◌∷◌, ◌++◌}
use Rattle.pic_io.specs.Sinks.{Piece, outs, lines}
use Rattle.pic_grid.specs.declared.stop.EndMark.{EndMark}
use Rattle.pic_grid.specs.declared.stop.EndMark.TheVariants.{Done as EndDone, Stopped as EndStopped}
use Rattle.pic_report.specs.declared.ended.Ended.{Ended}
use Rattle.pic_report.specs.declared.ended.Ended.TheVariants.{Done, Stopped}
use Rattle.pic_report.specs.Lines.{early_line}

-- an answer, and what goes to the two sinks: the head of a dump, frames, and what comes last
pub record Outcome : Type 0 where
  pub answer : Ended
  pub head : List ℕ
  pub frames : List Piece
  pub last : Piece

abbrev pub out_text : Outcome → List ℕ
out_text o = o.head ++ outs o.frames ++ o.last.out

abbrev pub report_text : Outcome → List ℕ
report_text o = lines o.frames ++ o.last.line

-- the pieces in their order: the head, where there is one, then the frames, then what comes last
abbrev pub with_head : List ℕ → List Piece → List Piece
with_head [] pieces = pieces
with_head (byte ∷ head) pieces = record { out = byte ∷ head; line = [] } ∷ pieces

abbrev pub pieces_of : Outcome → List Piece
pieces_of o = with_head o.head (o.frames ++ o.last ∷ [])

-- an answer that is told behind a head and frames: its line alone, on report
abbrev pub told_outcome : List ℕ → List Piece → List ℕ → Ended → Outcome
told_outcome head frames line answer = record {
  answer = answer;
  head = head;
  frames = frames;
  last = record { out = []; line = line };
}

-- one that comes before its command has put anything
abbrev pub early_outcome : Ended → Outcome
early_outcome answer = told_outcome [] [] (early_line answer) answer

-- the answer of a run that ends so
abbrev pub answer_of : EndMark → Ended
answer_of (EndDone steps) = Done steps
answer_of (EndStopped step stop) = Stopped step stop
