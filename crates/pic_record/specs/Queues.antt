-- A text that is put in pieces, with a room before the sink in which a part of it waits.
use Rattle.std.specs.Prelude.{◌≡◌, ℕ, List, ◌++◌, Result, Ok, Err}
use Rattle.pic_io.specs.Told.{Told}
use Rattle.pic_io.specs.Sink.{Appended, AppendedFront}

-- a text was handed in behind what waited: a part of both was put, and the rest waits
pub record Queued (before now : Told) (old new text : List ℕ) : Type 0 where
  pub part : List ℕ
  pub put : Appended before now part
  pub whole : part ++ new ≡ old ++ text

abbrev pub AnswersQueue : {T E : Type 0} → Told → Told → List ℕ → List ℕ → List ℕ → Result T E → Type 0
AnswersQueue before now old new text (Ok _) = Queued before now old new text
AnswersQueue before now old new text (Err _) = AppendedFront before now (old ++ text)

-- what handing a text in does: at Err a front of what waited and of the text was put
pub record Queues {T E : Type 0} (before now : Told) (old new text : List ℕ) (result : Result T E) : Type 0 where
  pub answer : AnswersQueue before now old new text result
