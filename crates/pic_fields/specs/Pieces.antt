-- Reading from a piece of the input that was taken ahead.
use Rattle.std.specs.Prelude.{ℕ, List, ◌++◌, Some}
use Rattle.pic_io.specs.Told.{Told}
use Rattle.pic_fields.specs.Parser.{Parser, each}

-- a piece tells what is left of it, and has no faults
abbrev pub piece_told : List ℕ → Told
piece_told bytes = record { bytes = Some bytes; faults = 0 }

-- n values behind some that were read, each by those before it
abbrev pub each_behind : {A : Type 0} → List A → ℕ → (List A → Parser A) → Parser (List A)
each_behind before n f = each n (λ xs. f (before ++ xs))
