use Rattle.pic_probe.proofs.ColumnLaws.{lines_have_columns}
use Rattle.pic_probe.proofs.laws.lines_have_columns.Goals as goal

pub returns : goal.returns
returns c = lines_have_columns
