-- Each header has one spelling, and none begins another's.
use Rattle.pic_fields.proofs.SpellLaws.{one_spelling}
use Rattle.pic_header.specs.Header.{HeaderView}
use Rattle.pic_header.specs.Spelling.{IsHeaderRead, HeadersAreSpelled, NoHeaderBeginsAnother}
use Rattle.pic_header.proofs.HeaderSpells.{FitsHeader, spells_header}

pub headers_are_spelled : HeadersAreSpelled
headers_are_spelled h is = (spells_header.takes is.place is.bytes h is.rest is.small is.reads).parts

header_fits : (h : HeaderView) → IsHeaderRead h → FitsHeader h
header_fits h is = (spells_header.takes is.place is.bytes h is.rest is.small is.reads).fits

pub no_header_begins_another : NoHeaderBeginsAnother
no_header_begins_another g h x y is_g is_h same = one_spelling spells_header g h x y (header_fits g is_g) (header_fits h is_h) same
