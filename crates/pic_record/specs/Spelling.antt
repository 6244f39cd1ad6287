-- Laws of the format of records: each record has one spelling, and none begins another's.
use Rattle.std.specs.Prelude.{◌≡◌, ℕ, List, ◌++◌, Option, Ok}
use Rattle.pic_fields.specs.Parser.{Input, input}
use Rattle.pic_fields.specs.Bytes.{IsBytes}
use Rattle.pic_record.specs.RecordText.{frame_bytes, end_bytes}
use Rattle.pic_record.specs.Layout.{LayoutView}
use Rattle.pic_record.specs.FrameFields.{field_with}
use Rattle.pic_record.specs.Records.{RecordView, AFrame, AnEnd, record_at}

-- the text of a record under a header
abbrev pub record_bytes : LayoutView → RecordView → List ℕ
record_bytes l (AFrame f) = frame_bytes f.step (field_with l f.e) (field_with l f.b) f.particles f.energies
record_bytes l (AnEnd mark) = end_bytes mark

-- a record of the format under a header: some bytes begin with it
pub record IsRecordRead (l : LayoutView) (r : RecordView) : Type 0 where
  pub last : Option ℕ
  pub place : ℕ
  pub bytes : List ℕ
  pub small : IsBytes bytes
  pub rest : Input
  pub reads : record_at l last (input place bytes) ≡ Ok (r, rest)

-- bytes that are read as a record begin with its text
abbrev pub RecordsAreSpelled : Type 0
RecordsAreSpelled = (l : LayoutView) (r : RecordView) (is : IsRecordRead l r) → is.bytes ≡ record_bytes l r ++ is.rest.bytes

-- under one header no frame's and no end record's text begins another's
abbrev pub NoRecordBeginsAnother : Type 0
NoRecordBeginsAnother =
    (l : LayoutView) (r s : RecordView) (x y : List ℕ) → IsRecordRead l r → IsRecordRead l s → record_bytes l r ++ x ≡ record_bytes l s ++ y → (r ≡ s) × (x ≡ y)
