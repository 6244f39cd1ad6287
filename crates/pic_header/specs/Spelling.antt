-- Laws of a header's format: a header has one spelling, and none begins another's.
use Rattle.std.specs.Prelude.{◌≡◌, ℕ, List, ◌++◌, Ok}
use Rattle.pic_fields.specs.Parser.{Input, input}
use Rattle.pic_fields.specs.Bytes.{IsBytes}
use Rattle.pic_header.specs.HeaderText.{header_bytes}
use Rattle.pic_header.specs.Header.{HeaderView}
use Rattle.pic_header.specs.HeaderFields.{header_at}

-- a header of the format: some bytes begin with it
pub record IsHeaderRead (h : HeaderView) : Type 0 where
  pub place : ℕ
  pub bytes : List ℕ
  pub small : IsBytes bytes
  pub rest : Input
  pub reads : header_at (input place bytes) ≡ Ok (h, rest)

-- bytes that are read as a header begin with its text
abbrev pub HeadersAreSpelled : Type 0
HeadersAreSpelled = (h : HeaderView) (is : IsHeaderRead h) → is.bytes ≡ header_bytes h ++ is.rest.bytes

-- no header's text begins another's
abbrev pub NoHeaderBeginsAnother : Type 0
NoHeaderBeginsAnother = (g h : HeaderView) (x y : List ℕ) → IsHeaderRead g → IsHeaderRead h → header_bytes g ++ x ≡ header_bytes h ++ y → (g ≡ h) × (x ≡ y)
