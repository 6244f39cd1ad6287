-- How a call ends, from how its last part finished; and what a source gave that was read so.
use Rattle.std.proofs.Common.{◌≡◌, List, [], ℕ, Option, Some, None, Result, Ok, Err, inl, inr, refl, ap, subst, sym}
use Rattle.std.specs.Prelude.{⊤, unwrap_or, IfSome}
use Rattle.pic_io.specs.Told.{Told, Rose, Calm}
use Rattle.pic_io.specs.Sinks.{Sinks}
use Rattle.pic_io.specs.declared.side.Side.{Side}
use Rattle.pic_report.specs.declared.cut.Cut.{Cut}
use Rattle.pic_report.specs.declared.cut.Cut.TheVariants as cut
use Rattle.pic_report.specs.declared.ended.Ended.{Ended}
use Rattle.pic_report.specs.declared.ended.Ended.TheVariants.{WriteFault, NoMemory}
use Rattle.pic_report.specs.Ended.{ended_of}
use Rattle.pic_report.specs.Outcome.{Outcome}
use Rattle.pic_report.specs.Reading.{Given, Held, Failed, FailedBehind, Gave}
use Rattle.pic_report.specs.Leaves.{Leaving, ComesTo}
use Rattle.pic_report.specs.Finishes.{Finishes, Announces}

-- a part that puts what stands on the sinks
pub finished : (leaves : Leaving) (o : Outcome) (before now : Sinks) (finish : Result Ended Cut) → Finishes leaves o before now finish
    → ComesTo leaves o before now (ended_of finish)
finished leaves o before now (Ok answer) ends = inl ends
finished leaves o before now (Err (cut.Write side)) ends = inr (inl (record { side = side; failed = refl; cut = ends }))
finished leaves o before now (Err cut.NoMemory) ends = inr (inr (record { wanted = refl; left = ends }))

-- one that wants no memory any more
pub announced : (leaves : Leaving) (o : Outcome) (before now : Sinks) (finish : Result Ended Cut) → Announces o before now finish
    → ComesTo leaves o before now (ended_of finish)
announced leaves o before now (Ok answer) ends = inl ends
announced leaves o before now (Err (cut.Write side)) ends = inr (inl (record { side = side; failed = refl; cut = ends }))
announced leaves o before now (Err cut.NoMemory) ends = absurd ends

-- memory was wanting
pub starved : (leaves : Leaving) (o : Outcome) (before now : Sinks) (finish : Result Ended Cut) → finish ≡ Err cut.NoMemory → leaves o before now
    → ComesTo leaves o before now (ended_of finish)
starved leaves o before now finish is left = inr (inr (record { wanted = ap ended_of is; left = left }))

-- a part that wants no memory any more ends with the outcome's answer, or a put failed
pub avoids : (P : Ended → Type 0) (o : Outcome) (before now : Sinks) (finish : Result Ended Cut) → (P o.answer → ⊥) → ((side : Side) → P (WriteFault side) → ⊥)
    → Announces o before now finish → P (ended_of finish) → ⊥
avoids P o before now (Ok answer) other write ends is = other (subst P (sym ends.answers) is)
avoids P o before now (Err (cut.Write side)) other write ends is = write side is
avoids P o before now (Err cut.NoMemory) other write ends is = ends

pub unlike : (o : Outcome) (before now : Sinks) (finish : Result Ended Cut) (ended : Ended)
    → (o.answer ≡ ended → ⊥) → ((side : Side) → WriteFault side ≡ ended → ⊥)
    → Announces o before now finish → ended_of finish ≡ ended → ⊥
unlike o before now finish ended = avoids (λ answer. answer ≡ ended) o before now finish

pub fed : (o : Outcome) (before now : Sinks) (finish : Result Ended Cut) → (o.answer ≡ NoMemory → ⊥) → Announces o before now finish
    → ended_of finish ≡ NoMemory → ⊥
fed o before now finish other = unlike o before now finish NoMemory other (λ side same. cc)

-- what holds for the held bytes holds for those that the source tells
pub told_held : (P : List ℕ → Type 0) (bytes : Option (List ℕ)) (held : List ℕ) → IfSome bytes (λ h. h ≡ held) → P held → IfSome bytes P
told_held P None held is fact = tt
told_held P (Some h) held is fact = subst P (sym is) fact

pub gave_held : (source source' : Told) (front : List ℕ) (given : Given) (held : List ℕ) → Gave source source' front given → given ≡ Held held
    → IfSome source.bytes (λ h. h ≡ held)
gave_held source source' front (Failed taken) held gave is = cc
gave_held source source' front (FailedBehind other whole) held gave is = cc
gave_held source source' front (Held h) held gave is =
    let same : h ≡ held = cc in subst (λ (x : List ℕ). IfSome source.bytes (λ b. b ≡ x)) same gave.1

-- a read failed
abbrev pub HasFailed : Given → Type 0
HasFailed (Held held) = ⊥
HasFailed (Failed taken) = ⊤
HasFailed (FailedBehind held whole) = ⊤

pub gave_failed : (source source' : Told) (front : List ℕ) (given : Given) → Gave source source' front given → HasFailed given → Rose source source'
gave_failed source source' front (Failed taken) gave failed = gave.0
gave_failed source source' front (FailedBehind held whole) gave failed = gave.0
gave_failed source source' front (Held held) gave failed = absurd failed

-- what a source holds, where it tells its bytes
pub gave_known : (a b : Told) (front : List ℕ) → Calm a b → Gave a b front (Held (unwrap_or a.bytes []))
gave_known a b front calm = (calm, known a.bytes)
  where
    known : (bytes : Option (List ℕ)) → IfSome bytes (λ held. held ≡ unwrap_or bytes [])
    known None = tt
    known (Some held) = refl
