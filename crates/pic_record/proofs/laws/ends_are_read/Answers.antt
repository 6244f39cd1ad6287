use Rattle.pic_record.proofs.ReadableEnd.{ends_are_read}
use Rattle.pic_record.proofs.laws.ends_are_read.Goals as goal

pub returns : goal.returns
returns c = ends_are_read
