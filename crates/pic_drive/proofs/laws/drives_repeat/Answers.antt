use Rattle.pic_drive.proofs.DriveLaws.{again}
use Rattle.pic_drive.proofs.laws.drives_repeat.Goals as goal

pub returns : goal.returns
returns c = again
