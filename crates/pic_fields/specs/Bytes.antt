-- Numbers that are bytes.
use Rattle.std.specs.Prelude.{ℕ, ◌<◌, List, get_or}

abbrev pub IsBytes : List ℕ → Type 0
IsBytes bytes = (i : ℕ) → get_or bytes i 0 < 256
