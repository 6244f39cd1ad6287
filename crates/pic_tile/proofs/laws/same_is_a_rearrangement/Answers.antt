use Rattle.pic_tile.proofs.InOrderLaws.{same_rearranged}
use Rattle.pic_tile.proofs.laws.same_is_a_rearrangement.Goals as goal

pub returns : goal.returns
returns c = same_rearranged
