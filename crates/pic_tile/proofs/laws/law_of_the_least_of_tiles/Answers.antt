use Rattle.pic_tile.proofs.LeastOfTilesLaws.{least_found}
use Rattle.pic_tile.proofs.laws.law_of_the_least_of_tiles.Goals as goal

pub returns : goal.returns
returns c = least_found
