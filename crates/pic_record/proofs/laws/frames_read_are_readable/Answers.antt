use Rattle.pic_record.proofs.FormatLaws.{frames_read_are_readable}
use Rattle.pic_record.proofs.laws.frames_read_are_readable.Goals as goal

pub returns : goal.returns
returns c = frames_read_are_readable
