-- What filling a room from a source gave.
use Rattle.std.specs.Prelude.{◌≡◌, ℕ, ◌<◌, ◌≤◌, List, length, take, Result, Ok, Err}
use Rattle.pic_io.specs.Told.{Told, Rose, Calm}
use Rattle.pic_io.specs.Source.{with_front, IsAtEnd}
use Rattle.pic_fields.specs.declared.read_stop.ReadStop.{ReadStop}
use Rattle.pic_fields.specs.declared.read_stop.ReadStop.TheVariants.{ReadFault, BadDump}

-- the first n bytes of the room were taken, fewer than it has only at the end of the input
pub record Filled (before now : Told) (room : List ℕ) (n : ℕ) : Type 0 where
  pub most : n ≤ length room
  pub taken : before.bytes ≡ with_front (take n room) now.bytes
  pub end : n < length room → IsAtEnd now
  pub calm : Calm before now

-- a read failed, and before it fewer bytes were taken than the room has
pub record Breaks (before now : Told) (room : List ℕ) : Type 0 where
  pub rose : Rose before now
  pub front : List ℕ
  pub moved : before.bytes ≡ with_front front now.bytes
  pub less : length front < length room

abbrev pub Fills : Told → Told → List ℕ → Result ℕ ReadStop → Type 0
Fills before now room (Ok n) = Filled before now room n
Fills before now room (Err ReadFault) = Breaks before now room
Fills before now room (Err (BadDump place cause)) = ⊥
