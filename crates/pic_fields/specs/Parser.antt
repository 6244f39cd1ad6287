-- A format as a parser of bytes: each field in its turn, with a test that may depend on the fields
-- before it. The fault of some bytes is that of the first field that fails, or that the bytes cut.
use Rattle.std.specs.Prelude.{ℕ, zero, suc, ◌+◌, Bool, nat_lt, if◌then◌else◌, List, [], ◌∷◌, ◌++◌, length, take, drop, Result, Ok, Err}
use Rattle.pic_fields.specs.Causes.{cause_number}
use Rattle.pic_fields.specs.declared.cause.Cause.TheVariants.{CutShort, TooMany}

-- where reading stands: how many bytes went before, and the bytes that are left
pub record Input : Type 0 where
  pub place : ℕ
  pub bytes : List ℕ

abbrev pub input : ℕ → List ℕ → Input
input place bytes = record { place = place; bytes = bytes }

-- why some bytes aren't of the format, and at which place
pub record Fault : Type 0 where
  pub place : ℕ
  pub cause : ℕ

abbrev pub fault : ℕ → ℕ → Fault
fault place cause = record { place = place; cause = cause }

-- what reading gives: a value and what is left, or the first fault
abbrev pub Parsed : Type 0 → Type 0
Parsed A = Result (A × Input) Fault

abbrev pub Parser : Type 0 → Type 0
Parser A = Input → Parsed A

-- a value that takes no bytes
unfoldable pub done : {A : Type 0} → A → Parser A
done a i = Ok (a, i)

abbrev pub after : {A B : Type 0} → Parsed A → (A → Parser B) → Parsed B
after (Ok x) f = f x.0 x.1
after (Err e) f = Err e

-- one field, and then what follows it
infixl 10 ◌>>=◌
unfoldable pub ◌>>=◌ : {A B : Type 0} → Parser A → (A → Parser B) → Parser B
(p >>= f) i = after (p i) f

-- the value as another
unfoldable pub mapped : {A B : Type 0} → (A → B) → Parser A → Parser B
mapped f p = p >>= (λ a. done (f a))

-- the cause of a field that the end of the bytes cuts; its place is that end
abbrev pub cut_short : ℕ
cut_short = cause_number CutShort

-- the cause of a byte behind the last field
abbrev pub too_many : ℕ
too_many = cause_number TooMany

-- n bytes
unfoldable pub field : ℕ → Parser (List ℕ)
field n i =
    if nat_lt (length i.bytes) n then Err (fault (i.place + length i.bytes) cut_short)
    else Ok (take n i.bytes, input (i.place + n) (drop n i.bytes))

-- a value that has to pass a test
abbrev pub tested_by : {A : Type 0} → ℕ → ℕ → (A → Bool) → Parsed A → Parsed A
tested_by place cause test (Ok x) = if test x.0 then Ok x else Err (fault place cause)
tested_by place cause test (Err e) = Err e

-- a field whose value has to pass a test; else the fault is at its first byte
unfoldable pub checked : {A : Type 0} → ℕ → (A → Bool) → Parser A → Parser A
checked cause test p i = tested_by i.place cause test (p i)

-- n values, each by those before it
unfoldable pub each : {A : Type 0} → ℕ → (List A → Parser A) → Parser (List A)
each zero f = done []
each (suc n) f = each n f >>= (λ xs. f xs >>= (λ x. done (xs ++ x ∷ [])))

-- the end of the bytes, with a value that was read before it
abbrev pub ended : {A : Type 0} → A → ℕ → List ℕ → Parsed A
ended a place [] = Ok (a, input place [])
ended a place (b ∷ bytes) = Err (fault place too_many)

unfoldable pub finished : {A : Type 0} → A → Parser A
finished a i = ended a i.place i.bytes
