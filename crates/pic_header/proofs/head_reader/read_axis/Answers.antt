use Rattle.pic_header.specs.HeaderFields.{axis_at}
use Rattle.pic_header.proofs.head_reader.read_axis.Goals as goal

pub returns-clause-reads : goal.returns-clause-reads
unfolding axis_at
returns-clause-reads g c = rw c.allowance_of.ensures at c.read_within.ensures.reads

pub returns-clause-most : goal.returns-clause-most
returns-clause-most g c = rw c.allowance_of.ensures at c.read_within.ensures.high
