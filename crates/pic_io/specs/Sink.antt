use Rattle.std.specs.Prelude.{◌≡◌, ℕ, List, ◌++◌, take, Option, option_map, Result, Ok, Err}
use Rattle.pic_io.specs.Told.{Told}

-- the known bytes, and these behind them
abbrev pub with_back : Option (List ℕ) → List ℕ → Option (List ℕ)
with_back known back = option_map (λ bytes. bytes ++ back) known

-- the whole text was appended
abbrev pub Appended : Told → Told → List ℕ → Type 0
Appended before now text = now.bytes ≡ with_back before.bytes text

-- some front of the text was appended
abbrev pub AppendedFront : Told → Told → List ℕ → Type 0
AppendedFront before now text = (k : ℕ) × Appended before now (take k text)

-- what a put does: at Ok the whole piece was appended, and at Err a front of it
abbrev pub Puts : {T E : Type 0} → Told → Told → List ℕ → Result T E → Type 0
Puts before now piece (Ok _) = Appended before now piece
Puts before now piece (Err _) = AppendedFront before now piece
