use Rattle.pic_dump.proofs.ReadableDump.{dumps_are_read}
use Rattle.pic_dump.proofs.laws.dumps_are_read.Goals as goal

pub returns : goal.returns
returns c = dumps_are_read
