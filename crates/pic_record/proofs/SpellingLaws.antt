-- Each record has one spelling, and none begins another's.
use Rattle.pic_fields.proofs.SpellLaws.{one_spelling}
use Rattle.pic_record.specs.Layout.{LayoutView}
use Rattle.pic_record.specs.Records.{RecordView}
use Rattle.pic_record.specs.Spelling.{IsRecordRead, RecordsAreSpelled, NoRecordBeginsAnother}
use Rattle.pic_record.proofs.RecordSpells.{FitsRecord, spells_record, record_any}

pub records_are_spelled : RecordsAreSpelled
records_are_spelled l r is = ((spells_record l).takes is.place is.bytes r is.rest is.small (record_any l is.last _ is.rest r is.reads)).parts

record_fits : (l : LayoutView) (r : RecordView) → IsRecordRead l r → FitsRecord l r
record_fits l r is = ((spells_record l).takes is.place is.bytes r is.rest is.small (record_any l is.last _ is.rest r is.reads)).fits

pub no_record_begins_another : NoRecordBeginsAnother
no_record_begins_another l r s x y is_r is_s same = one_spelling (spells_record l) r s x y (record_fits l r is_r) (record_fits l s is_s) same
