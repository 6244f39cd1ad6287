use Rattle.pic_drive.proofs.DriveLaws.{closed}
use Rattle.pic_drive.proofs.laws.driven_current_is_closed.Goals as goal

pub returns : goal.returns
returns c = closed
