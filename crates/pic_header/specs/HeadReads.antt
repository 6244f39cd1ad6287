-- What a call that reads a part of the header, and takes memory, gave.
use Rattle.std.specs.Prelude.{◌≡◌, ℕ, ◌+◌, List, Result, Some, Ok, Err}
use Rattle.pic_io.specs.Told.{Told, Calm}
use Rattle.pic_fields.specs.Parser.{Parser, Parsed, input}
use Rattle.pic_fields.specs.Reads.{Moves, MovesLess, HasRead, Stops}
use Rattle.pic_header.specs.Limits.{most_letters}
use Rattle.pic_header.specs.declared.head_stop.HeadStop.{HeadStop}
use Rattle.pic_header.specs.declared.head_stop.HeadStop.TheVariants.{Read, NoMemory}

-- memory was wanted, and no byte beyond `most` was taken
pub record Starves (start most : ℕ) (before now : Told) : Type 0 where
  pub calm : Calm before now
  pub moves : Moves start most before now

abbrev pub HeadAnswers : {A B : Type 0} → (B → A) → Parser A → ℕ → (A → ℕ) → ℕ → Told → Told → Result B HeadStop → Type 0
HeadAnswers view p start end most before now (Ok b) = HasRead p start before (view b) (end (view b)) now
HeadAnswers view p start end most before now (Err (Read stop)) = Stops p start most before now stop
HeadAnswers view p start end most before now (Err NoMemory) = Starves start most before now

-- the value and where it ends, or the first fault, or a read failed, or want of memory; none of these
-- took a byte beyond `most`
pub record HeadReads {A B : Type 0} (view : B → A) (p : Parser A) (start : ℕ) (end : A → ℕ) (most : ℕ) (before now : Told) (result : Result B HeadStop) : Type
    0 where
  pub answer : HeadAnswers view p start end most before now result

-- how far a header's bytes may be read: to the end of the value, or no more than the longest field, a
-- name, beyond the place of the first fault
abbrev pub reach_of : {A : Type 0} → Parsed A → ℕ
reach_of (Ok x) = x.1.place
reach_of (Err f) = f.place + most_letters

-- no byte was taken beyond that, by the bytes that the source told
pub record TakesWithin {A : Type 0} (p : Parser A) (start : ℕ) (before now : Told) : Type 0 where
  pub moves : (bytes : List ℕ) → before.bytes ≡ Some bytes
      → Moves start (reach_of (p (input start bytes))) before now

-- and where a read failed, fewer: not all bytes of a value that is there
pub record TakesLess {A : Type 0} (p : Parser A) (start : ℕ) (before now : Told) : Type 0 where
  pub moves : (bytes : List ℕ) → before.bytes ≡ Some bytes
      → MovesLess start (reach_of (p (input start bytes))) before now
