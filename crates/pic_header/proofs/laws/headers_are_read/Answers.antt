use Rattle.pic_header.proofs.ReadableHeader.{headers_are_read}
use Rattle.pic_header.proofs.laws.headers_are_read.Goals as goal

pub returns : goal.returns
returns c = headers_are_read
