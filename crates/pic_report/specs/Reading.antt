-- What a call took of its source, and what the source gave.
use Rattle.std.specs.Prelude.{◌≡◌, ℕ, List, IfSome}
use Rattle.pic_io.specs.Told.{Told, Calm, Rose}
use Rattle.pic_io.specs.Source.{with_front}

-- what a source gave: all that it held; or a read failed, and these bytes were taken before it; or one
-- failed behind so many whole parts of the dump that it held
pub data Given : Type 0 where
  Held : List ℕ → Given
  Failed : List ℕ → Given
  FailedBehind : List ℕ → ℕ → Given

-- this was given, where `front` was taken: what a source held is known where it tells its bytes
abbrev pub Gave : Told → Told → List ℕ → Given → Type 0
Gave before now front (Held held) = Calm before now × IfSome before.bytes (λ bytes. bytes ≡ held)
Gave before now front (Failed taken) = Rose before now × (taken ≡ front)
Gave before now front (FailedBehind held whole) = Rose before now × IfSome before.bytes (λ bytes. bytes ≡ held)

-- how a source was read: the bytes that were taken, of which so much holds, and what was given
pub record Reading (Taken : List ℕ → Type 0) (before now : Told) : Type 0 where
  pub front : List ℕ
  pub most : Taken front
  pub taken : before.bytes ≡ with_front front now.bytes
  pub given : Given
  pub gave : Gave before now front given
