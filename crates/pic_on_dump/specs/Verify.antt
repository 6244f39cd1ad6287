-- The command `verify`: whether a dump is of the format and meets Gauss's law.
use Rattle.std.specs.Prelude.{◌≡◌, ℕ, List, Ok, Err, IfSome}
use Rattle.pic_io.specs.Told.{Told, Rose}
use Rattle.pic_io.specs.Source.{IsAtEnd}
use Rattle.pic_charge.specs.declared.breaks.Break.{Break}
use Rattle.pic_verify.specs.declared.verify_stop.VerifyStop.TheVariants as verify_stop
use Rattle.pic_dump.specs.Allowed.{TakesHeader}
use Rattle.pic_verify.specs.Reached.{TakesToRecord}
use Rattle.pic_verify.specs.Verified.{verified}
use Rattle.pic_report.specs.declared.ended.Ended.{Ended}
use Rattle.pic_report.specs.declared.ended.Ended.TheVariants.{Verified, BadDump, Broken, ReadFault, NoMemory}
use Rattle.pic_on_dump.specs.DumpReading.{TakesOfDump}
use Rattle.pic_on_dump.specs.Verdict.{verdict_on, verdict_outcome}
use Rattle.pic_report.specs.Leaves.{LeavesNothing}
use Rattle.pic_report.specs.Manner.{Call, Manner}

-- what is taken of a dump whose frames are tested: no byte behind the most that the first record that
-- isn't good can have
pub record TakesOfTested (source source' : Told) (front : List ℕ) : Type 0 where
  pub dump : TakesOfDump source source' front
  pub reached : TakesToRecord source source'

-- how a dump was read: where memory was wanting, no byte behind its header was taken; one whose frames
-- are good, to its end; and a read fault is one that the source's count shows
pub record ReadsDump (source source' : Told) (ended : Ended) : Type 0 where
  pub memory : ended ≡ NoMemory → TakesHeader source source'
  pub end : (frames : ℕ) → ended ≡ Verified frames → IsAtEnd source'
  pub fault : ended ≡ ReadFault → Rose source source'

-- the dump that the source held has so many frames, each of the format and with Gauss's law, and
-- nothing behind its end record
pub record IsVerified (c : Call) (frames : ℕ) : Type 0 where
  pub good : IfSome c.source.bytes (λ held. verified held ≡ Ok frames)
  pub end : IsAtEnd c.source_now

-- this is the first fault of what the source held, all earlier frames being good
abbrev pub IsBadDump : Call → ℕ → ℕ → Type 0
IsBadDump c place cause =
    IfSome c.source.bytes (λ held. verified held ≡ Err (verify_stop.BadDump place cause))

-- this is the first frame of the dump that fails Gauss's law, before any fault, and its least node
abbrev pub IsBroken : Call → ℕ → Break → Type 0
IsBroken c frame b =
    IfSome c.source.bytes (λ held. verified held ≡ Err (verify_stop.Broken frame b))

abbrev pub VerifyMeans : Call → Ended → Type 0
VerifyMeans c (Verified frames) = IsVerified c frames
VerifyMeans c (BadDump place cause) = IsBadDump c place cause
VerifyMeans c (Broken frame b) = IsBroken c frame b
VerifyMeans c answer = ⊥

abbrev pub verifying : Manner
verifying = record {
  outcome = λ given. verdict_outcome (verdict_on given);
  leaves = LeavesNothing;
  takes = TakesOfTested;
  reads = λ source source' given. ReadsDump source source';
  means = VerifyMeans;
}
