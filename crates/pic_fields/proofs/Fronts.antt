-- What stands in the front of a room was taken from the source.
use Rattle.std.proofs.Common.{◌≡◌, ℕ, ◌≤◌, List, length, take}
use Rattle.pic_io.specs.Told.{Told, Calm}
use Rattle.pic_io.specs.Source.{with_front}

-- the first n bytes of the room were taken
pub record Fronts (before now : Told) (room : List ℕ) (n : ℕ) : Type 0 where
  pub most : n ≤ length room
  pub taken : before.bytes ≡ with_front (take n room) now.bytes
  pub calm : Calm before now
