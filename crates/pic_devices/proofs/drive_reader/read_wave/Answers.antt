use Rattle.pic_walk.proofs.WalkLaws.{goes_on, exits}
use Rattle.pic_devices.specs.Drive.{wave}
use Rattle.pic_devices.specs.Lists.{list_within}
use Rattle.pic_devices.proofs.drive_reader.read_wave.Goals as goal

pub returns-in_err-numbers-clause-walks : goal.returns-in_err-numbers-clause-walks
unfolding wave list_within
returns-in_err-numbers-clause-walks c = exits _ _ c.from_residual.ensures.1 c.in_err-numbers.ensures.walks

pub returns-clause-walks : goal.returns-clause-walks
unfolding wave list_within
returns-clause-walks c = goes_on _ _ _ c.in_ok-numbers.ensures.walks.answer (rw c.from_to.ensures at c.counted.ensures.walks)

pub returns-clause-bounds : goal.returns-clause-bounds
returns-clause-bounds c = rw c.from_to.ensures at c.counted.ensures.bounds
