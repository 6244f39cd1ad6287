-- How a deck is read of its source.
use Rattle.std.specs.Prelude.{◌≡◌, ℕ, ◌<◌, ◌≤◌, List, length, take, Result, Ok, Err, Vec}
use Rattle.std.specs.declared.alloc.Global.{Global}
use Rattle.pic_io.specs.Told.{Told, Calm, Rose}
use Rattle.pic_io.specs.Source.{with_front, IsAtEnd}
use Rattle.pic_open.specs.declared.source_reader.SourceStop.{SourceStop}
use Rattle.pic_open.specs.declared.source_reader.SourceStop.TheVariants.{Fault, NoMemory}
use Rattle.pic_report.specs.Reading.{Held, Gave}

-- the greatest number of bytes that are taken for a deck: one more than a deck may have
unfoldable pub deck_limit : ℕ
deck_limit = 1048577

-- so many bytes are no more than what is taken for a deck
abbrev pub TakesOfDeck : List ℕ → Type 0
TakesOfDeck front = length front ≤ deck_limit

-- at most so many bytes were taken
pub record TakesAtMost (limit : ℕ) (before now : Told) : Type 0 where
  pub front : List ℕ
  pub most : length front ≤ limit
  pub taken : before.bytes ≡ with_front front now.bytes

-- these bytes are what the source held, up to the limit; fewer than that are all of it
pub record TookAll (before now : Told) (limit : ℕ) (bytes : List ℕ) : Type 0 where
  pub held : List ℕ
  pub gave : Gave before now bytes (Held held)
  pub front : take limit held ≡ bytes
  pub end : length bytes < limit → IsAtEnd now

-- what a whole reading does: Ok has the bytes, and a fault is one that the source's count shows
abbrev pub ReadsAll : Told → Told → ℕ → Result (Vec ℕ Global) SourceStop → Type 0
ReadsAll before now limit (Ok bytes) = TookAll before now limit bytes.items
ReadsAll before now limit (Err Fault) = Rose before now
ReadsAll before now limit (Err NoMemory) = Calm before now
