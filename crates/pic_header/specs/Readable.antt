-- What is put can be read: the format takes the text of each header, and gives back that header.
use Rattle.std.specs.Prelude.{◌≡◌, ℕ, ◌+◌, List, ◌++◌, length, Ok}
use Rattle.pic_fields.specs.Parser.{Parser, input}
use Rattle.pic_header.specs.HeaderText.{header_bytes}
use Rattle.pic_header.specs.Header.{HeaderView, IsHeader}
use Rattle.pic_header.specs.HeaderFields.{header_at}

-- a format gives a value from a text, whatever follows it
abbrev pub IsReadFrom : {A : Type 0} → Parser A → List ℕ → A → Type 0
IsReadFrom p text a = (place : ℕ) (rest : List ℕ) → p (input place (text ++ rest)) ≡ Ok (a, input (place + length text) rest)

-- every header that its type keeps
abbrev pub HeadersAreRead : Type 0
HeadersAreRead = (h : HeaderView) → IsHeader h → IsReadFrom header_at (header_bytes h) h
