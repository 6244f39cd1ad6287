use Rattle.pic_record.proofs.ReadableFrame.{frames_are_read}
use Rattle.pic_record.proofs.laws.frames_are_read.Goals as goal

pub returns : goal.returns
returns c = frames_are_read
