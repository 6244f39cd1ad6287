use Rattle.std.specs.Prelude.{◌≡◌, ℕ, ◌<◌, List, [], ◌++◌, length, take, Option, option_map, Result, Ok, Err}
use Rattle.pic_io.specs.Told.{Told}

-- these bytes before the known ones
abbrev pub with_front : List ℕ → Option (List ℕ) → Option (List ℕ)
with_front front known = option_map (λ bytes. front ++ bytes) known

-- no byte is left, where the source tells its bytes
abbrev pub IsAtEnd : Told → Type 0
IsAtEnd now = now.bytes ≡ option_map (λ _. []) now.bytes

-- the first n bytes left are in the front of the room now, and 0 in some room only at the end
pub record Took (before now : Told) (room : List ℕ) (n : ℕ) : Type 0 where
  pub moved : before.bytes ≡ with_front (take n room) now.bytes
  pub end : n ≡ 0 → 0 < length room → IsAtEnd now

-- what a take does: at Ok the bytes moved, and at Err none was taken
abbrev pub Takes : {E : Type 0} → Told → Told → List ℕ → Result ℕ E → Type 0
Takes before now room (Ok n) = Took before now room n
Takes before now room (Err _) = now.bytes ≡ before.bytes
