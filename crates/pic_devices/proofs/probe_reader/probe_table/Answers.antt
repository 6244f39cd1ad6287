use Rattle.std.proofs.Common.{◌∙◌}
use Rattle.pic_walk.proofs.TableLaws.{key_at-top}
use Rattle.pic_devices.proofs.probe_reader.probe_table.Goals as goal

pub read_table-requires : goal.read_table-requires
read_table-requires c = c.new.ensures.path ∙ key_at-top _
