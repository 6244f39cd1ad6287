-- A line that is put in pieces.
use Rattle.std.specs.Prelude.{◌≡◌, ℕ, List, ◌++◌, Result, Ok, Err}
use Rattle.pic_io.specs.Told.{Told, Calm}
use Rattle.pic_io.specs.Sink.{Appended}
use Rattle.pic_io.specs.Sinks.{LineCut}
use Rattle.pic_io.specs.declared.side.Side.{Side}

-- a text was put, but for what the piece still holds of it
pub record HasPut (before now : Told) (piece text : List ℕ) : Type 0 where
  pub done : List ℕ
  pub put : Appended before now done
  pub calm : Calm before now
  pub all : done ++ piece ≡ text

-- a piece that is full is put, and the next one is begun; or the put failed
abbrev pub PutsFull : {T : Type 0} → Told → Told → List ℕ → List ℕ → Result T Side → Type 0
PutsFull before now piece next (Ok _) = HasPut before now next piece
PutsFull before now piece next (Err side) = LineCut side before now piece
