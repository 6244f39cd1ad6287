use Rattle.pic_walk.specs.Walk.{need}
use Rattle.pic_walk.proofs.WalkLaws.{goes_on, exits}
use Rattle.pic_devices.proofs.drive_reader.need_axis.Goals as goal

pub returns-in_err-value : goal.returns-in_err-value
unfolding need
returns-in_err-value c = exits _ _ c.from_residual.ensures.1 c.in_err-value.ensures

pub returns : goal.returns
unfolding need
returns c = goes_on _ _ _ c.in_ok-value.ensures.answer (rw c.new.ensures.path at c.read_axis.ensures)
