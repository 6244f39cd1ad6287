use Rattle.pic_grid.proofs.WeightLaws as weights
use Rattle.pic_laws.proofs.laws.constant_is_gathered.Goals as goal

pub returns : goal.returns
returns c = weights.constant_is_gathered
