-- The spelling of a format's values.
use Rattle.std.proofs.Common.{◌≡◌, ℕ, ◌+◌, List, ◌++◌, length, Ok}
use Rattle.pic_fields.specs.Bytes.{IsBytes}
use Rattle.pic_fields.specs.Parser.{Parser, Input, input}

-- what was taken is the spelling of a value that fits
pub record IsSpelled {A : Type 0} (spell : A → List ℕ) (Fits : A → Type 0) (place : ℕ) (bytes : List ℕ) (a : A) (i : Input) : Type 0 where
  pub fits : Fits a
  pub parts : bytes ≡ spell a ++ i.bytes
  pub small : IsBytes i.bytes
  pub place_is : i.place ≡ place + length (spell a)

-- a format gives each value that fits from its spelling alone, whatever follows, and no other
pub record Spells {A : Type 0} (p : Parser A) (spell : A → List ℕ) (Fits : A → Type 0) : Type 0 where
  pub again : (place : ℕ) (rest : List ℕ) (a : A) → Fits a → p (input place (spell a ++ rest)) ≡ Ok (a, input (place + length (spell a)) rest)
  pub takes : (place : ℕ) (bytes : List ℕ) (a : A) (i : Input) → IsBytes bytes → p (input place bytes) ≡ Ok (a, i) → IsSpelled spell Fits place bytes a i
