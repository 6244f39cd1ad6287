use Rattle.pic_drive.proofs.DriveLaws.{alone}
use Rattle.pic_drive.proofs.laws.drives_its_face.Goals as goal

pub returns : goal.returns
returns c = alone
