use Rattle.pic_tile.proofs.InOrderLaws.{census_rearranged}
use Rattle.pic_tile.proofs.laws.census_is_a_rearrangement.Goals as goal

pub returns : goal.returns
returns c = census_rearranged
