use Rattle.std.proofs.Common.{◌∙◌}
use Rattle.pic_walk.specs.Walk.{need}
use Rattle.pic_walk.proofs.TableLaws.{key_at-top}
use Rattle.pic_walk.proofs.WalkLaws.{goes_on, exits}
use Rattle.pic_walk.proofs.tables.need_table.Goals as goal

pub returns-in_err-value : goal.returns-in_err-value
unfolding need
returns-in_err-value c = exits _ _ c.from_residual.ensures.1 c.in_err-value.ensures

pub read_table-requires : goal.read_table-requires
read_table-requires c = c.new.ensures.path ∙ key_at-top _

pub returns : goal.returns
unfolding need
returns c = goes_on _ _ _ c.in_ok-value.ensures.answer (rw (key_at-top c.args.key.now) c.read_table.ensures)
