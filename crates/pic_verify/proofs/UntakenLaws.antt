-- A dump of which nothing was taken: no record was reached.
use Rattle.pic_io.specs.Told.{Told}
use Rattle.pic_header.specs.Header.{HeaderView}
use Rattle.pic_header.specs.HeaderFields.{header_length}
use Rattle.pic_header.specs.declared.head_stop.HeadStop.TheVariants.{NoMemory}
use Rattle.pic_dump.proofs.UntakenLaws.{no_head, none_within}
use Rattle.pic_verify.specs.Reached.{TakesToRecord}
use Rattle.pic_verify.proofs.ReachedLaws.{stops_reached}

pub none_reached : (source : Told) → TakesToRecord source source
none_reached source = stops_reached (λ (h : HeaderView). h) header_length source source NoMemory (no_head source) (none_within source)
