use Rattle.pic_walk.specs.Walk.{need}
use Rattle.pic_walk.proofs.WalkLaws.{goes_on, exits}
use Rattle.pic_devices.proofs.drive_reader.need_wave.Goals as goal

pub returns-in_err-value-clause-walks : goal.returns-in_err-value-clause-walks
unfolding need
returns-in_err-value-clause-walks c = exits _ _ c.from_residual.ensures.1 c.in_err-value.ensures

pub returns-clause-walks : goal.returns-clause-walks
unfolding need
returns-clause-walks c = goes_on _ _ _ c.in_ok-value.ensures.answer (rw c.new.ensures.path at c.read_wave.ensures.walks)
