-- What a call that reads from a source gave, held against a format.
use Rattle.std.specs.Prelude.{◌≡◌, ℕ, ◌+◌, ◌<◌, ◌≤◌, List, [], length, option_map, Result, Ok, Err}
use Rattle.pic_io.specs.Told.{Told, Rose, Calm}
use Rattle.pic_io.specs.Source.{with_front, IsAtEnd}
use Rattle.pic_fields.specs.Parser.{Parser, Fault, fault, input}
use Rattle.pic_fields.specs.declared.read_stop.ReadStop.{ReadStop}
use Rattle.pic_fields.specs.declared.read_stop.ReadStop.TheVariants.{ReadFault, BadDump}

-- these bytes are left, where the source tells its bytes
abbrev pub Left : Told → List ℕ → Type 0
Left now rest = now.bytes ≡ option_map (λ _. rest) now.bytes

-- what was taken lies between two places
pub record Moves (start end : ℕ) (before now : Told) : Type 0 where
  pub front : List ℕ
  pub moved : before.bytes ≡ with_front front now.bytes
  pub most : start + length front ≤ end

-- what was taken begins at a place, and ends before another
pub record MovesLess (start end : ℕ) (before now : Told) : Type 0 where
  pub front : List ℕ
  pub moved : before.bytes ≡ with_front front now.bytes
  pub less : start + length front < end

-- a value was read from one place up to another, all that lies between them: whatever is left now, what
-- was there before is of the format and gives the value
pub record HasRead {A : Type 0} (p : Parser A) (start : ℕ) (before : Told) (a : A) (end : ℕ) (now : Told) : Type 0 where
  pub calm : Calm before now
  pub moves : Moves start end before now
  pub whole : start + length moves.front ≡ end
  pub reads : (rest : List ℕ) → Left now rest → (held : List ℕ) × Left before held × (p (input start held) ≡ Ok (a, input end rest))

-- a fault was found, which is the first
pub record Fails {A : Type 0} (p : Parser A) (start : ℕ) (before : Told) (f : Fault) (now : Told) : Type 0 where
  pub calm : Calm before now
  pub held : List ℕ
  pub was : Left before held
  pub fails : p (input start held) ≡ Err f

-- a value was read, and nothing is left behind it; no byte beyond `most` was taken
pub record HasReadAll {A : Type 0} (p : Parser A) (start most : ℕ) (before : Told) (a : A) (now : Told) : Type 0 where
  pub calm : Calm before now
  pub moves : Moves start most before now
  pub end : IsAtEnd now
  pub held : List ℕ
  pub was : Left before held
  pub stop : ℕ
  pub reads : p (input start held) ≡ Ok (a, input stop [])

abbrev pub Why : {A : Type 0} → Parser A → ℕ → Told → Told → ReadStop → Type 0
Why p start before now (BadDump place cause) = Fails p start before (fault place cause) now
Why p start before now ReadFault = Rose before now

-- why a call gave no value: the first fault, or a read failed; no byte beyond `end` was taken, and where a
-- read failed not all of those before it
pub record Stops {A : Type 0} (p : Parser A) (start end : ℕ) (before now : Told) (stop : ReadStop) : Type 0 where
  pub why : Why p start before now stop
  pub moves : Moves start end before now
  pub less : stop ≡ ReadFault → start + length moves.front < end

abbrev pub Answers : {A B : Type 0} → (B → A) → Parser A → ℕ → ℕ → Told → Told → Result B ReadStop → Type 0
Answers view p start end before now (Ok b) = HasRead p start before (view b) end now
Answers view p start end before now (Err stop) = Stops p start end before now stop

-- what a call that reads a part of a format gave; `view` is what its result stands for
pub record Reads {A B : Type 0} (view : B → A) (p : Parser A) (start end : ℕ) (before now : Told) (result : Result B ReadStop) : Type 0 where
  pub answer : Answers view p start end before now result

abbrev pub AnswersEnd : {A B : Type 0} → (B → A) → Parser A → ℕ → ℕ → Told → Told → Result B ReadStop → Type 0
AnswersEnd view p start most before now (Ok b) = HasReadAll p start most before (view b) now
AnswersEnd view p start most before now (Err stop) = Stops p start most before now stop

-- the same for one that reads up to the end of the input, and takes no byte beyond `most`
pub record ReadsEnd {A B : Type 0} (view : B → A) (p : Parser A) (start most : ℕ) (before now : Told) (result : Result B ReadStop) : Type 0 where
  pub answer : AnswersEnd view p start most before now result

-- a value that a call leaves in one of its arguments, whatever its result is
abbrev pub always : {A B : Type 0} → A → B → A
always a b = a

-- the result itself
abbrev pub as_it_is : {A : Type 0} → A → A
as_it_is a = a
