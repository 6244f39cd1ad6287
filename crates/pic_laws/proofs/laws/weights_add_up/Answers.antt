use Rattle.pic_grid.proofs.WeightLaws as weights
use Rattle.pic_laws.proofs.laws.weights_add_up.Goals as goal

pub returns : goal.returns
returns c = weights.weights_add_up
