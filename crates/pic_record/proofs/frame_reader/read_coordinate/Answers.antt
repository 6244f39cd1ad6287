use Rattle.pic_record.specs.FrameFields.{coordinate_at}
use Rattle.pic_record.proofs.frame_reader.read_coordinate.Goals as goal

pub returns-clause-reads : goal.returns-clause-reads
unfolding coordinate_at
returns-clause-reads g c = c.read_below.ensures.reads
