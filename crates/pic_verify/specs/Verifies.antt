-- What a call that verifies a dump answered, held against what the source had.
use Rattle.std.specs.Prelude.{◌≡◌, ◌≢◌, ℕ, ◌+◌, List, None, Some, Ok, Err, ⊤}
use Rattle.pic_io.specs.Told.{Told, Rose, Calm, Quiet}
use Rattle.pic_io.specs.Source.{IsAtEnd}
use Rattle.pic_fields.specs.Parser.{input}
use Rattle.pic_fields.specs.Reads.{Left, Moves}
use Rattle.pic_dump.specs.Standing.{Standing}
use Rattle.pic_verify.specs.declared.verify_stop.VerifyStop.TheVariants.{ReadFault, BadDump, Broken, NoMemory}
use Rattle.pic_dump.specs.Allowed.{records_length}
use Rattle.pic_verify.specs.Verified.{Verdict, walked, verified}

-- the answer is the verdict on the bytes that were left, and no read failed
pub record Finds (of : List ℕ → Verdict) (before now : Told) (answer : Verdict) : Type 0 where
  pub calm : Calm before now
  pub held : List ℕ
  pub was : Left before held
  pub verdict : of held ≡ answer

abbrev pub Answered : (List ℕ → Verdict) → Told → Told → Verdict → Type 0
Answered of before now (Ok frames) = Finds of before now (Ok frames) × IsAtEnd now
Answered of before now (Err ReadFault) = Rose before now
Answered of before now (Err (BadDump place cause)) = Finds of before now (Err (BadDump place cause))
Answered of before now (Err (Broken frame at)) = Finds of before now (Err (Broken frame at))
Answered of before now (Err NoMemory) = Calm before now

-- so many good frames, and the source was read to its end; or the first fault, or the first break; or
-- a read failed, or want of memory
pub record Verifies (before now : Told) (result : Verdict) : Type 0 where
  pub answer : Answered verified before now result

-- the same for the records from where a reader stands, before any frame, that no more was taken than
-- the header allows, and a byte, and that no memory was wanted
pub record Walks (r : Standing) (before now : Told) (result : Verdict) : Type 0 where
  pub moves : Moves r.place (r.place + (records_length r.layout + 1)) before now
  pub answer : Answered (λ held. walked (r.layout.steps + 2) r.layout 0 None (input r.place held)) before now result
  pub no_memory : result ≢ Err NoMemory

-- the verdict, or want of memory
abbrev pub OrNoMemory : Verdict → Verdict → Type 0
OrNoMemory verdict (Err NoMemory) = ⊤
OrNoMemory verdict answer = answer ≡ verdict

-- where the source tells its bytes and no read failed, the answer is the verdict on them
abbrev pub IsExact : Told → Told → Verdict → Type 0
IsExact before now answer = (bytes : List ℕ) → before.bytes ≡ Some bytes → Quiet before now → OrNoMemory (verified bytes) answer
