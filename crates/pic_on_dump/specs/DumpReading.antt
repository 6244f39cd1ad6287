-- How a dump is read of its source.
use Rattle.std.specs.Prelude.{◌≡◌, ⊤, ℕ, List}
use Rattle.pic_io.specs.Told.{Told}
use Rattle.pic_dump.specs.Allowed.{TakesAllowed}
use Rattle.pic_dump.specs.Whole.{parts_in, TakesWhole}
use Rattle.pic_report.specs.Reading.{Given, Held, Failed, FailedBehind}

-- what is taken of a dump: at most one byte past the length that its header allows
pub record TakesOfDump (source source' : Told) (front : List ℕ) : Type 0 where
  pub allowed : TakesAllowed source source'
  pub same : allowed.front ≡ front

-- a dump is given whole, or where a read failed by so many parts as were taken whole before
abbrev pub HasParts : Told → Told → Given → Type 0
HasParts source source' (Held held) = ⊤
HasParts source source' (Failed front) = ⊥
HasParts source source' (FailedBehind held whole) = TakesWhole (parts_in held) 0 whole source source'
