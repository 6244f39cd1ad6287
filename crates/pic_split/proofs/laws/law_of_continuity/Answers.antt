use Rattle.pic_split.proofs.ContinuityLaws.{continuity_of_move}
use Rattle.pic_split.proofs.laws.law_of_continuity.Goals as goal

pub returns : goal.returns
returns c = continuity_of_move
