use Rattle.pic_drive.proofs.DriveLaws.{add_up}
use Rattle.pic_drive.proofs.laws.drives_add_up.Goals as goal

pub returns : goal.returns
returns c = add_up
